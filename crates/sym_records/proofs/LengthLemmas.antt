-- The length of the line of a record.
use Rattle.std.proofs.Common.{◌≡◌, ℕ, ◌+◌, ◌-◌, ◌^◌, ◌<◌, Bool, true, false, cond, min, List, [], ◌∷◌, ◌++◌, length, drop, map, nat_le, ◌∙◌, ap, arith, length-append}
use Rattle.std.specs.List.{flat_map}
use Rattle.std.proofs.lemmas.Bool.Decides.{nat_tests}
use Rattle.sym_records.specs.Canon.{body}
use Rattle.sym_records.specs.Fields.{hex, mark, spelled_range}
use Rattle.sym_records.specs.Listed.{Said, said, fields, spelled_field}
use Rattle.sym_records.specs.Records.{headed, keyword}
use Rattle.sym_records.proofs.ListedLemmas.{fields_spell, spelled_said}
use Rattle.sym_records.specs.declared.field.Field.{Field}
use Rattle.sym_records.specs.declared.line.Extent.{Extent}
use Rattle.std.specs.Fmt.{decimal}
use Rattle.sym_rules.specs.Rules.{spelled_rules}
use Rattle.sym_rules.specs.declared.rules.RuleText.{RuleText}
use Rattle.sym_records.specs.declared.line.Binary.{Binary}
use Rattle.sym_records.specs.declared.line.SymLine.TheVariants as line
use Rattle.sym_records.specs.declared.line.SymLine.{SymLine}

pub range_length : (r : Extent) (a s : List ℕ) (x y : ℕ) → a ≡ hex r.address → s ≡ hex r.size → x ≡ min (length a + 1) (2 ^ 64 - 1) → y ≡ min (length s + 1) (2 ^ 64 - 1) → min (x + y) (2 ^ 64 - 1) ≡ min (length (spelled_range r)) (2 ^ 64 - 1)
unfolding spelled_range
range_length r a s x y p q first second = omega (arith, ap length p, ap length q, length-append (32 ∷ hex r.address) (32 ∷ hex r.size))

pub word_said : (w : List ℕ) (x : ℕ) → x ≡ min (length w + 1) (2 ^ 64 - 1) → x ≡ min (length (32 ∷ w)) (2 ^ 64 - 1)
word_said w x is = omega arith

pub marked_said : (many : Bool) (n m x : ℕ) (w : List ℕ) → w ≡ hex n → x ≡ min (length w + 1) (2 ^ 64 - 1) → m ≡ cond many 2 0 → min (x + m) (2 ^ 64 - 1) ≡ min (length (mark many ++ 32 ∷ hex n)) (2 ^ 64 - 1)
marked_said true n m x w p q r = omega (arith, ap length p)
marked_said false n m x w p q r = omega (arith, ap length p)

length_dropped : (xs : List ℕ) → length (drop 1 xs) ≡ length xs - 1
length_dropped [] = omega arith
length_dropped (x ∷ xs) = omega arith

body_length : (s : SymLine) → length (body s) ≡ (length (headed (keyword s)) + length (flat_map spelled_field (fields s))) - 1
body_length s = omega (arith, ap length (fields_spell s), length_dropped (headed (keyword s) ++ flat_map spelled_field (fields s)), length-append (headed (keyword s)) (flat_map spelled_field (fields s)))

pub short : (s : SymLine) (fs : List Field) (list : List Said) (words : List ℕ) (count limit : ℕ) → limit < 2 ^ 63 → list ≡ fields s → map said fs ≡ list → words ≡ headed (keyword s)
    → count ≡ min (length (flat_map (λ f. spelled_field (said f)) fs)) (2 ^ 64 - 1) → nat_le (min (count + length words) (2 ^ 64 - 1)) (limit + 1) ≡ nat_le (length (body s)) limit
short s fs list words count limit small first second third is =
    let size : length (body s) ≡ (length words + length (flat_map (λ f. spelled_field (said f)) fs)) - 1
    = omega (arith, body_length s, ap length third, ap length (spelled_said fs ∙ ap (flat_map spelled_field) (second ∙ first))) in
    grind (arith, nat_tests)

-- The length of each record: its keyword, its spaces and its fields.
pub length_module : (binary : Binary) → length (body (line.Module binary)) ≡ 10 + length binary.os + length binary.arch + length binary.id + length binary.name
unfolding body
length_module b = omega (arith, length-append (32 ∷ b.os) ((32 ∷ b.arch) ++ ((32 ∷ b.id) ++ 32 ∷ b.name)), length-append (32 ∷ b.arch) ((32 ∷ b.id) ++ 32 ∷ b.name), length-append (32 ∷ b.id) (32 ∷ b.name))

pub length_info : (text : List ℕ) → length (body (line.Info text)) ≡ 5 + length text
unfolding body
length_info text = omega arith

pub length_file : (number : ℕ) (name : List ℕ) → length (body (line.File number name)) ≡ 6 + length (decimal number) + length name
unfolding body
length_file number name = omega (arith, length-append (32 ∷ decimal number) (32 ∷ name))

pub length_origin : (number : ℕ) (name : List ℕ) → length (body (line.Origin number name)) ≡ 15 + length (decimal number) + length name
unfolding body
length_origin number name = omega (arith, length-append (32 ∷ decimal number) (32 ∷ name))

pub length_func : (many : Bool) (address size params : ℕ) (name : List ℕ) → length (body (line.Func many address size params name)) ≡ 8 + length (mark many) + length (hex address) + length (hex size) + length (hex params) + length name
unfolding body
length_func many address size params name =
    omega (arith, length-append (mark many ++ 32 ∷ hex address) ((32 ∷ hex size) ++ ((32 ∷ hex params) ++ 32 ∷ name)), length-append (mark many) (32 ∷ hex address), length-append (32 ∷ hex size) ((32 ∷ hex params) ++ 32 ∷ name), length-append (32 ∷ hex params) (32 ∷ name))

pub length_inline : (level call_line call_file origin : ℕ) (ranges : List Extent) → length (body (line.Inline level call_line call_file origin ranges)) ≡ 10 + length (decimal level) + length (decimal call_line) + length (decimal call_file) + length (decimal origin) + length (flat_map spelled_range ranges)
unfolding body
length_inline level call_line call_file origin ranges =
    omega (arith, length-append (32 ∷ decimal level) ((32 ∷ decimal call_line) ++ ((32 ∷ decimal call_file) ++ ((32 ∷ decimal origin) ++ flat_map spelled_range ranges))), length-append (32 ∷ decimal call_line) ((32 ∷ decimal call_file) ++ ((32 ∷ decimal origin) ++ flat_map spelled_range ranges)), length-append (32 ∷ decimal call_file) ((32 ∷ decimal origin) ++ flat_map spelled_range ranges), length-append (32 ∷ decimal origin) (flat_map spelled_range ranges))

pub length_line : (address size number file : ℕ) → length (body (line.Line address size number file)) ≡ 3 + length (hex address) + length (hex size) + length (decimal number) + length (decimal file)
unfolding body
length_line address size number file =
    omega (arith, length-append (hex address) ((32 ∷ hex size) ++ ((32 ∷ decimal number) ++ 32 ∷ decimal file)), length-append (32 ∷ hex size) ((32 ∷ decimal number) ++ 32 ∷ decimal file), length-append (32 ∷ decimal number) (32 ∷ decimal file))

pub length_public : (many : Bool) (address params : ℕ) (name : List ℕ) → length (body (line.Public many address params name)) ≡ 9 + length (mark many) + length (hex address) + length (hex params) + length name
unfolding body
length_public many address params name =
    omega (arith, length-append (mark many ++ 32 ∷ hex address) ((32 ∷ hex params) ++ 32 ∷ name), length-append (mark many) (32 ∷ hex address), length-append (32 ∷ hex params) (32 ∷ name))

pub length_init : (address size : ℕ) (rules : List RuleText) → length (body (line.Init address size rules)) ≡ 16 + length (hex address) + length (hex size) + length (spelled_rules rules)
unfolding body
length_init address size rules = omega (arith, length-append (32 ∷ hex address) ((32 ∷ hex size) ++ spelled_rules rules), length-append (32 ∷ hex size) (spelled_rules rules))

pub length_change : (address : ℕ) (rules : List RuleText) → length (body (line.Change address rules)) ≡ 10 + length (hex address) + length (spelled_rules rules)
unfolding body
length_change address rules = omega (arith, length-append (32 ∷ hex address) (spelled_rules rules))
