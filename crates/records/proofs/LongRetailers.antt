-- The computed records and notices with long retailers are what change 7 says. Assumes nothing.
use mathlib.Core.Path.{refl}
use Rattle.records.specs.Layout.{field_of}
use Rattle.records.specs.Records.{well_formed_by, reading_by}
use Rattle.records.specs.Notices.{encode_by}
use Rattle.records.specs.LongRetailers.{LongRetailers}

pub long_retailers_lem : LongRetailers
unfolding field_of well_formed_by reading_by encode_by
long_retailers_lem = record {
  create = refl;
  create_past = refl;
  switch = refl;
  switch_past = refl;
  cancel = refl;
  agreement = refl;
  agreement_past = refl;
  counter = refl;
  counter_past = refl;
  retire = refl;
  scheduled = refl;
  notice = refl;
}
