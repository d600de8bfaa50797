-- Laws of a notice's bytes: how many, that they are bytes, and that they are read back. Assumes nothing.
use Prim.Native.Nat.{◌<◌, ◌*◌}
use mathlib.Core.Path.{◌≡◌, refl, ◌∙◌}
use mathlib.Core.List.{List, [], ◌∷◌, ◌++◌, append_assoc}
use native.Mathlib.Omega.{arith}
use lib.ListN.{length, length-append}
use Rattle.records.specs.declared.Notice.{Notice}
use Rattle.records.specs.Layout.{Bytes, record_length, premise_field, field_of}
use Rattle.records.specs.Notices.{encode_by, encode, decode, ReadsBack, encode_all}
use Rattle.records.proofs.Fields.{number_bytes}

pub length-encode : (n : Notice) → length (encode n) ≡ record_length
unfolding encode_by
length-encode n = refl

pub encode_bytes : (n : Notice) → Bytes (encode n)
unfolding encode_by
encode_bytes n = omega arith

pub reads_back : ReadsBack
unfolding encode_by decode field_of
reads_back n fits =
    λ i. record {
      code = number_bytes 1 n.code fits.code i;
      kind = number_bytes 1 n.kind fits.kind i;
      day = number_bytes 2 n.day fits.day i;
      reference = number_bytes 4 n.reference fits.reference i;
      premise = number_bytes 8 n.premise fits.premise i;
      addressee = number_bytes 8 n.addressee fits.addressee i;
    }

pub premise_back : (n : Notice) → n.premise < 18446744073709551616 → field_of premise_field (encode n) ≡ n.premise
unfolding encode_by field_of
premise_back n h = number_bytes 8 n.premise h

pub length-encode_all : (ns : List Notice) → length (encode_all ns) ≡ record_length * length ns
length-encode_all [] = refl
length-encode_all (n ∷ ns) = length-append (encode n) (encode_all ns) ∙ omega (arith, length-encode n, length-encode_all ns)

pub encode_all-append : (ms ns : List Notice) → encode_all (ms ++ ns) ≡ encode_all ms ++ encode_all ns
encode_all-append [] ns = refl
encode_all-append (m ∷ ms) ns = rw (encode_all-append ms ns, append_assoc (encode m) (encode_all ms) (encode_all ns))
