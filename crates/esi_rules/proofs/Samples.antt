-- The samples hold: computed. Assumes nothing.
use mathlib.Core.Path.{◌≡◌, refl}
use mathlib.Core.Bool.{true}
use Rattle.records.specs.Layout.{field_of}
use Rattle.esi_rules.specs.Directory.{halves_kept, record_kept, sound}
use Rattle.esi_rules.specs.LookUp.{number, is_id_text, look_up}
use Rattle.esi_rules.specs.Samples.{all_hold}

pub samples : all_hold ≡ true
unfolding field_of halves_kept record_kept sound number is_id_text look_up
samples = refl
