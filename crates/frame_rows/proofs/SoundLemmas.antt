-- The rows of an entry without a bad instruction are sound. The lemmas are for those of
-- EntryLemmas.
use Rattle.std.proofs.Common.{◌≡◌, ℕ, ℤ, pos, negsuc, zero, suc, ◌-◌, ◌*◌, ◌%◌, ◌^◌, ◌<◌, ◌==◌, ◌||◌, not, cond, Bool, true, false, List, [], ◌∷◌, take, drop, set, get_or, replicate, nat_lt, nat_le, Option, Some, None, is_some, Ok, Err, refl, ap, sym, ◌∙◌, arith, rules}
use Rattle.std.proofs.lemmas.Bool.{and_from, and_parts, le-ltb, lt-ltb, ltb-false, ltb-true}
use Rattle.std.proofs.lemmas.Bool.Decides.{nat_tests}
use Rattle.std.specs.Int.{w64, cast_signed, cast_unsigned}
use Rattle.sym_edges.specs.declared.reason.Reason.TheVariants as reason
use Rattle.sym_edges.specs.Integers.{fits_i64}
use Rattle.sym_edges.specs.Results.{unless}
use Rattle.frame_entries.specs.FdeFields.{FdeFields}
use Rattle.frame_rows.specs.declared.row.Rule.{Rule}
use Rattle.frame_rows.specs.declared.row.Rule.TheVariants as rule
use Rattle.frame_rows.specs.declared.row.CfaRule.{CfaRule}
use Rattle.frame_rows.specs.declared.row.CfaRule.TheVariants as cfa
use Rattle.expr_steps.specs.declared.place.Place.{Place}
use Rattle.expr_steps.specs.Places.{bytes_at}
use Rattle.expr_steps.specs.Standing.{standing}
use Rattle.frame_rows.specs.declared.instruction.Block.{Block}
use Rattle.frame_rows.specs.declared.row.Row.{Row}
use Rattle.frame_rows.specs.Context.{Context}
use Rattle.frame_rows.specs.declared.instruction.Instruction.{Instruction}
use Rattle.frame_rows.specs.declared.instruction.Instruction.TheVariants.{Nop}
use Rattle.frame_rows.specs.Instructions.{Item}
use Rattle.frame_rows.specs.Machine.{Machine}
use Rattle.frame_rows.specs.Steps.{Effect, MovesTo, MovesBy, DefinesCfa, DefinesCfaExpr, ChangesRegister, ChangesOffset, PutsRule, Remembers, TakesBack, DoesNothing, effect, done, effect_fault, plain, scaled, stepped, step_fault, register_fault, part_fault, put_cfa, put_cfa_expr, put_register, put_offset, put_rule, cfa_register, cfa_offset, place_of_block, can_say, expr_fault, column_expr_fault, rule_behind, top_or, under}
use Rattle.frame_rows.specs.Rows.{item_stepped, item_fault, first_fault, all_stepped, replay, empty_row, cie_context, cie_items, cie_begin, cie_end, left_context, own_context, own_items, own_begin, row_at, instruction_fault, expr_bytes, is_sound_rule, is_sound_cfa, IsSound}
use Rattle.frame_rows.proofs.TestLemmas.{elim_bool, neither}
use Rattle.frame_rows.proofs.StepLemmas.{unless_none}
use Rattle.frame_rows.proofs.RowLemmas.{parted}

-- All rows in a list are sound; so are the row in a context, and all rows of a state.
abbrev pub AllSound : FdeFields → List Row → Type 0
AllSound e [] = Unit {0}
AllSound e (row ∷ rows) = IsSound e row × AllSound e rows

abbrev pub InitialSound : FdeFields → Option Row → Type 0
InitialSound e None = Unit {0}
InitialSound e (Some row) = IsSound e row

pub record IsSoundState (e : FdeFields) (m : Machine) : Type 0 where
  pub row : IsSound e m.row
  pub stack : AllSound e m.stack

-- Instructions are executed with the row that the CIE left. Their run of bytes is the entry's own
-- or that of its CIE.
pub record IsOf (e : FdeFields) (s : Context) : Type 0 where
  pub initial : InitialSound e s.initial
  pub run : s.run ≡ cond (is_some s.initial) e.instructions e.initial_instructions

-- A column gets a new rule.
put_column : (P : ℕ → Rule → Type 0) (rules : List Rule) (column : ℕ) (new d : Rule) → P column new → ((c : ℕ) → P c (get_or rules c d)) → (c : ℕ) → P c (get_or (set rules column new) c d)
put_column P [] column new d here all c = all c
put_column P (r ∷ rules) zero new d here all zero = here
put_column P (r ∷ rules) zero new d here all (suc c) = all (suc c)
put_column P (r ∷ rules) (suc k) new d here all zero = all zero
put_column P (r ∷ rules) (suc k) new d here all (suc c) = put_column (λ n. P (suc n)) rules k new d here (λ n. all (suc n)) c

put_sound : (e : FdeFields) (column : ℕ) (new : Rule) (row : Row) → (column < 17 → is_sound_rule e column new ≡ true) → IsSound e row → IsSound e (put_rule column new row)
unfolding put_rule
put_sound e column new row here names =
    elim_bool (nat_lt column 17) (λ t. IsSound e (cond t (record { cfa = row.cfa; rules = set row.rules column new }) row))
    (λ is. record { cfa = names.cfa; columns = put_column (λ c r. is_sound_rule e c r ≡ true) row.rules column new rule.Rest (here (ltb-true column 17 is)) names.columns })
    (λ is. names)

-- A number that is cast to an i64 fits an i64.
fits_cast : (n : ℕ) → fits_i64 (cast_signed w64 n) ≡ true
fits_cast n =
    elim_bool (nat_lt n (2 ^ 63)) (λ t. nat_lt n (2 ^ 63) ≡ t → fits_i64 (cond t (pos n) (negsuc (2 ^ 64 - suc n))) ≡ true)
    (λ _ is. is) (λ _ is. lt-ltb (2 ^ 64 - suc n) (2 ^ 63) (omega (arith, ltb-false n (2 ^ 63) is))) refl

plain_fits : (offset : ℕ) → fits_i64 (plain offset) ≡ true
plain_fits offset = fits_cast offset

scaled_fits : (s : Context) (factored : ℤ) → fits_i64 (scaled s factored) ≡ true
scaled_fits s factored = fits_cast ((cast_unsigned w64 factored * cast_unsigned w64 s.data_align) % 2 ^ 64)

cfa_sound : (e : FdeFields) (register : ℕ) (offset : ℤ) (row : Row) → register_fault register ≡ None → fits_i64 offset ≡ true → IsSound e row → IsSound e (put_cfa register offset row)
unfolding put_cfa
cfa_sound e register offset row good fits names = record { cfa = and_from _ _ (unless_none (nat_lt register 16) reason.Register good) fits; columns = names.columns }

cfa_expr_sound : (e : FdeFields) (place : Place) (row : Row) → is_some (standing false (expr_bytes e place)) ≡ true → IsSound e row → IsSound e (put_cfa_expr place row)
unfolding put_cfa_expr
cfa_expr_sound e place row said names = record { cfa = said; columns = names.columns }

changed_register : (e : FdeFields) (register : ℕ) (cfa : Option CfaRule) → nat_lt register 16 ≡ true → is_sound_cfa e cfa ≡ true → is_sound_cfa e (cfa_register register cfa) ≡ true
changed_register e register None is sound = refl
changed_register e register (Some (cfa.Base old offset)) is sound = and_from _ _ is (and_parts (nat_lt old 16) _ sound).1
changed_register e register (Some (cfa.Expr place)) is sound = sound

changed_offset : (e : FdeFields) (offset : ℤ) (cfa : Option CfaRule) → fits_i64 offset ≡ true → is_sound_cfa e cfa ≡ true → is_sound_cfa e (cfa_offset offset cfa) ≡ true
changed_offset e offset None fits sound = refl
changed_offset e offset (Some (cfa.Base register old)) fits sound = and_from _ _ (and_parts _ _ sound).0 fits
changed_offset e offset (Some (cfa.Expr place)) fits sound = sound

register_sound : (e : FdeFields) (register : ℕ) (row : Row) → register_fault register ≡ None → IsSound e row → IsSound e (put_register register row)
unfolding put_register
register_sound e register row good names = record { cfa = changed_register e register row.cfa (unless_none (nat_lt register 16) reason.Register good) names.cfa; columns = names.columns }

offset_sound : (e : FdeFields) (offset : ℤ) (row : Row) → fits_i64 offset ≡ true → IsSound e row → IsSound e (put_offset offset row)
unfolding put_offset
offset_sound e offset row fits names = record { cfa = changed_offset e offset row.cfa fits names.cfa; columns = names.columns }

behind_sound : (e : FdeFields) (initial : Option Row) (column : ℕ) → InitialSound e initial → is_sound_rule e column (rule_behind initial column) ≡ true
behind_sound e None column names = refl
behind_sound e (Some row) column names = names.columns column

top_sound : (e : FdeFields) (row : Row) (stack : List Row) → IsSound e row → AllSound e stack → IsSound e (top_or row stack)
top_sound e row [] names all = names
top_sound e row (top ∷ rows) names all = all.0

under_sound : (e : FdeFields) (stack : List Row) → AllSound e stack → AllSound e (under stack)
under_sound e [] all = tt
under_sound e (top ∷ rows) all = all.1

same_named : (column : ℕ) → unless (not (column == 16)) reason.Register ≡ None → column < 17 → nat_lt column 16 ≡ true
same_named column good low = (let other : not (column == 16) ≡ true = unless_none _ _ good in grind (arith, nat_tests))

source_named : (column register : ℕ) → unless (nat_lt 16 column || nat_lt register 16) reason.Register ≡ None → column < 17 → nat_lt register 16 ≡ true
source_named column register good low = (let either : (nat_lt 16 column || nat_lt register 16) ≡ true = unless_none _ _ good in grind (arith, nat_tests))

-- Rule text can express an expression whose instruction is not refused.
either_run : (own : Bool) (run : List ℕ) → cond own run run ≡ run
either_run true run = refl
either_run false run = refl

bytes_here : (e : FdeFields) (s : Context) (block : Block) → IsOf e s → bytes_at (place_of_block s block) s.run s.run ≡ expr_bytes e (place_of_block s block)
unfolding bytes_at
bytes_here e s block of = ap (λ l. take block.len (drop block.start l)) (either_run (is_some s.initial) s.run ∙ of.run)

can_said : (e : FdeFields) (s : Context) (over_cfa : Bool) (block : Block) → IsOf e s → can_say over_cfa s block ≡ true → is_some (standing over_cfa (expr_bytes e (place_of_block s block))) ≡ true
unfolding can_say
can_said e s over_cfa block of can =
    sym (ap (λ bytes. is_some (standing over_cfa bytes)) (bytes_here e s block of))
    ∙ (and_parts (nat_lt block.len (2 ^ 32)) _ (and_parts (nat_lt block.start (2 ^ 32)) _ can).1).1

said : (e : FdeFields) (s : Context) (over_cfa : Bool) (block : Block) → IsOf e s → expr_fault over_cfa s block ≡ None → is_some (standing over_cfa (expr_bytes e (place_of_block s block))) ≡ true
said e s over_cfa block of good = can_said e s over_cfa block of (unless_none (can_say over_cfa s block) reason.Expression good)

column_said : (e : FdeFields) (s : Context) (column : ℕ) (block : Block) → IsOf e s → column_expr_fault s column block ≡ None → column < 17 → is_some (standing true (expr_bytes e (place_of_block s block))) ≡ true
column_said e s column block of good low =
    can_said e s true block of (sym (ap (λ t. t || can_say true s block) (le-ltb 16 column (omega arith))) ∙ unless_none (nat_lt 16 column || can_say true s block) reason.Expression good)

-- The rule that an effect puts into a row is sound, unless there is a reason against it.
abbrev Puts : FdeFields → Effect → Type 0
Puts e (DefinesCfa register offset) = fits_i64 offset ≡ true
Puts e (DefinesCfaExpr place why) = why ≡ None → is_some (standing false (expr_bytes e place)) ≡ true
Puts e (ChangesOffset offset) = fits_i64 offset ≡ true
Puts e (PutsRule column new why) = why ≡ None → column < 17 → is_sound_rule e column new ≡ true
Puts e _ = Unit {0}

puts : (e : FdeFields) (s : Context) (i : Instruction) → IsOf e s → Puts e (effect s i)
puts e s Nop of = tt
puts e s i of = search (rules, plain_fits, scaled_fits, same_named, source_named, said, column_said, behind_sound, of, of.initial)

effect_sound : (e : FdeFields) (s : Context) (x : Effect) (m : Machine) → effect_fault s x m ≡ None → Puts e x → IsSoundState e m → IsSoundState e (done x m)
effect_sound e s (MovesTo address) m good what names = record { row = names.row; stack = names.stack }
effect_sound e s (MovesBy distance) m good what names = record { row = names.row; stack = names.stack }
effect_sound e s (DefinesCfa register offset) m good what names = record { row = cfa_sound e register offset m.row good what names.row; stack = names.stack }
effect_sound e s (DefinesCfaExpr place why) m good what names = record { row = cfa_expr_sound e place m.row (what good) names.row; stack = names.stack }
effect_sound e s (ChangesRegister register) m good what names = record { row = register_sound e register m.row (neither (register_fault register) (part_fault m) good).0 names.row; stack = names.stack }
effect_sound e s (ChangesOffset offset) m good what names = record { row = offset_sound e offset m.row what names.row; stack = names.stack }
effect_sound e s (PutsRule column new why) m good what names = record { row = put_sound e column new m.row (what good) names.row; stack = names.stack }
effect_sound e s Remembers m good what names = record { row = names.row; stack = (names.row, names.stack) }
effect_sound e s TakesBack m good what names = record { row = top_sound e m.row m.stack names.row names.stack; stack = under_sound e m.stack names.stack }
effect_sound e s DoesNothing m good what names = names

step_sound : (e : FdeFields) (s : Context) (i : Instruction) (m : Machine) → step_fault s i m ≡ None → IsOf e s → IsSoundState e m → IsSoundState e (stepped s i m)
unfolding stepped step_fault
step_sound e s i m good of names = effect_sound e s (effect s i) m good (puts e s i of) names

item_sound : (e : FdeFields) (s : Context) (i : Item) (m : Machine) → item_fault s i m ≡ None → IsOf e s → IsSoundState e m → IsSoundState e (item_stepped s i m)
item_sound e s (Ok i) m good of names = step_sound e s i m good of names
item_sound e s (Err why) m good of names = names

all_sound : (e : FdeFields) (s : Context) (items : List Item) (m : Machine) → first_fault s items m ≡ None → IsOf e s → IsSoundState e m → IsSoundState e (all_stepped s items m)
unfolding all_stepped
all_sound e s [] m good of names = names
all_sound e s (i ∷ items) m good of names =
    let parts = parted s i items m good in
    all_sound e s items (item_stepped s i m) parts.1 of (item_sound e s i m parts.0 of names)

replay_sound : (e : FdeFields) (s : Context) (items : List Item) (m : Machine) (a : ℕ) → first_fault s items m ≡ None → IsOf e s → IsSoundState e m → IsSoundState e (replay s items m a)
unfolding replay
replay_sound e s [] m a good of names = names
replay_sound e s (i ∷ items) m a good of names =
    let parts = parted s i items m good in
    elim_bool (nat_le m.address a) (λ t. IsSoundState e (cond t (replay s items (item_stepped s i m) a) m))
    (λ _. replay_sound e s items (item_stepped s i m) a parts.1 of (item_sound e s i m parts.0 of names)) (λ _. names)

all_rest : (n c : ℕ) → get_or (replicate n rule.Rest) c rule.Rest ≡ rule.Rest
all_rest zero c = refl
all_rest (suc n) zero = refl
all_rest (suc n) (suc c) = all_rest n c

rest_sound : (e : FdeFields) (n c : ℕ) → is_sound_rule e c (get_or (replicate n rule.Rest) c rule.Rest) ≡ true
rest_sound e n c = ap (is_sound_rule e c) (all_rest n c)

empty_sound : (e : FdeFields) → IsSound e empty_row
unfolding empty_row
empty_sound e = record { cfa = refl; columns = λ c. rest_sound e 17 c }

begin_sound : (e : FdeFields) → IsSoundState e (cie_begin e)
unfolding cie_begin
begin_sound e = record { row = empty_sound e; stack = tt }

end_sound : (e : FdeFields) → first_fault (cie_context e) (cie_items e) (cie_begin e) ≡ None → IsSoundState e (cie_end e)
unfolding cie_end cie_context
end_sound e good = all_sound e (cie_context e) (cie_items e) (cie_begin e) good (record { initial = tt; run = refl }) (begin_sound e)

-- Each row of an entry without a bad instruction is sound.
pub entry_sound : (e : FdeFields) (a : ℕ) → instruction_fault e ≡ None → IsSound e (row_at e a)
unfolding instruction_fault row_at own_begin own_context left_context
entry_sound e a good =
    let parts = neither (first_fault (cie_context e) (cie_items e) (cie_begin e)) (first_fault (own_context e) (own_items e) (own_begin e)) good in
    let names = end_sound e parts.0 in
    (replay_sound e (own_context e) (own_items e) (own_begin e) a parts.1 (record { initial = names.row; run = refl }) (record { row = names.row; stack = names.stack })).row
