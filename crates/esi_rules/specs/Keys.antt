-- A record's first twelve bytes, the packed digits and their count, as two numbers: so the code compares ESI IDs.
use Rattle.std.specs.Prelude.{ℕ, List, [], ◌∷◌, ◌++◌, Bool, ◌&&◌, ◌||◌, eqb, length, take, drop}
use Rattle.records.specs.Layout.{number}
use Rattle.esi_rules.specs.declared.Key.{Key}
use Rattle.esi_rules.specs.Packed.{packed}
use Rattle.esi_rules.specs.Directory.{id_width, premise_of}

-- the twelve bytes, and how many the first number has
abbrev pub key_width : ℕ
key_width = 12

abbrev pub first_width : ℕ
first_width = 8

abbrev pub last_width : ℕ
last_width = 4

unfoldable pub key_of : List ℕ → Key
key_of row = record { first = number (take first_width row); last = number (take last_width (drop first_width row)) }

-- the first twelve bytes of a record with these digits
abbrev pub key_bytes : List ℕ → List ℕ
key_bytes digits = packed id_width digits ++ (length digits ∷ [])

abbrev pub same_key : Key → Key → Bool
same_key a b = eqb a.first b.first && eqb a.last b.last

-- whether a record has a key
abbrev pub has_key : Key → List ℕ → Bool
has_key key row = same_key (key_of row) key

-- whether a record has a key or a P
abbrev pub has_either : Key → ℕ → List ℕ → Bool
has_either key premise row = has_key key row || eqb (premise_of row) premise

-- whether a record stands twice with another: it has the other's key or P
abbrev pub clashes : List ℕ → List ℕ → Bool
clashes row = has_either (key_of row) (premise_of row)
