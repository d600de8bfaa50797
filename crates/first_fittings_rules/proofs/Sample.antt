-- Change 9's sample and a case for each answer: computed. Assumes nothing.
use mathlib.Core.Path.{◌≡◌, refl}
use mathlib.Core.Bool.{true}
use Rattle.first_fittings_rules.specs.Layout.{turned_record}
use Rattle.first_fittings_rules.specs.Answers.{number}
use Rattle.first_fittings_rules.specs.Conversions.{converted, rows, answer, given}
use Rattle.first_fittings_rules.specs.Sample.{SampleHolds, pieces, all_hold}

pub sample : SampleHolds
unfolding turned_record number converted rows answer given
sample =
    record {
      old =
          record {
            there = record { promise = record { answered = refl; count = refl; bytes = refl }; unrefused = refl };
            back = record { promise = record { answered = refl; count = refl; bytes = refl }; unrefused = refl };
          };
      ours =
          record {
            there = record { promise = record { answered = refl; count = refl; bytes = refl }; unrefused = refl };
            back = record { promise = record { answered = refl; count = refl; bytes = refl }; unrefused = refl };
          };
      old_numbers = refl;
      our_numbers = refl;
    }

pub answers : all_hold pieces ≡ true
unfolding turned_record number converted rows answer given
answers = refl
