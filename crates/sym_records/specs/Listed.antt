-- The fields of a record as a list.
use Rattle.std.specs.Prelude.{ℕ, ◌^◌, Bool, nat_lt, List, [], ◌∷◌, ◌++◌}
use Rattle.std.specs.List.{flat_map}
use Rattle.std.specs.Fmt.{decimal}
use Rattle.sym_records.specs.Fields.{hex}
use Rattle.sym_rules.specs.Rules.{spelled_rules}
use Rattle.sym_rules.specs.RuleValidity.{are_rules}
use Rattle.sym_records.specs.Fields.{is_field, is_name}
use Rattle.sym_rules.specs.declared.rules.RuleText.{RuleText}
use Rattle.sym_records.specs.declared.line.Extent.{Extent}
use Rattle.sym_records.specs.declared.line.SymLine.{SymLine}
use Rattle.sym_records.specs.Records.{layout, Parts, after, parts}
use Rattle.sym_records.specs.declared.field.Field.{Field}
use Rattle.sym_records.specs.declared.field.Field.TheVariants as held
use Rattle.sym_records.specs.Fields.{Middle, Word, Hex, Marked, Decimal, Shape, Name, Rules, Ranges, Last, Then, Held, Values, mark, spelled_range, are_ranges}

-- the value of a field, by its kind
pub data Said : Type 0 where
  word : List ℕ → Said
  name : List ℕ → Said
  number : ℕ → Said
  marked : Bool → ℕ → Said
  count : ℕ → Said
  ranges : List Extent → Said
  rules : List RuleText → Said

-- the value of a field, as the specs see it
abbrev pub said : Field → Said
said (held.Word w) = word w.now
said (held.Name n) = name n.now
said (held.Hex n) = number n
said (held.Marked many n) = marked many n
said (held.Decimal n) = count n
said (held.Ranges rs) = ranges rs.now
said (held.Rules rs) = rules rs.now

-- the spelling of a field, with one space before it
abbrev pub spelled_field : Said → List ℕ
spelled_field (word w) = 32 ∷ w
spelled_field (name n) = 32 ∷ n
spelled_field (number n) = 32 ∷ hex n
spelled_field (marked many n) = mark many ++ 32 ∷ hex n
spelled_field (count n) = 32 ∷ decimal n
spelled_field (ranges rs) = flat_map spelled_range rs
spelled_field (rules rs) = spelled_rules rs

-- whether a line can carry the field
abbrev pub fits_field : Said → Bool
fits_field (word w) = is_field w
fits_field (name n) = is_name n
fits_field (number n) = nat_lt n (2 ^ 64)
fits_field (marked many n) = nat_lt n (2 ^ 64)
fits_field (count n) = nat_lt n (2 ^ 32)
fits_field (ranges rs) = are_ranges rs
fits_field (rules rs) = are_rules rs

-- the fields of a line as a list, given their kinds and values
abbrev pub middle_said : (m : Middle) → Held m → Said
middle_said Word w = word w
middle_said Hex n = number n
middle_said Marked x = marked x.0 x.1
middle_said Decimal n = count n

abbrev pub listed : (shape : Shape) → Values shape → List Said
listed Name n = name n ∷ []
listed Rules rs = rules rs ∷ []
listed Ranges rs = ranges rs ∷ []
listed Last n = count n ∷ []
listed (Then m rest) v = middle_said m v.0 ∷ listed rest v.1

-- the fields of a record
abbrev pub fields_in : Parts → List Said
fields_in (after k v) = listed (layout k) v

abbrev pub fields : SymLine → List Said
fields s = fields_in (parts s)
