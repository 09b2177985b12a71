-- The CFA of a written entry is a number of 64 bits, or a failure.
use Rattle.std.proofs.Common.{◌≡◌, ◌<◌, ◌+◌, ◌*◌, ◌^◌, ◌%◌, ℕ, zero, suc, Bool, true, false, nat_lt, cond, List, [], ◌∷◌, Option, None, Some, Result, Ok, Err, option_and_then, refl, sym, ap, ◌∙◌, subst, arith, int_lt, true≢false, is_some}
use Rattle.std.specs.Option.{option_map}
use Rattle.std.specs.List.{AllByRecursion, slice_index_or}
use Rattle.std.specs.Int.{w64, cast_signed}
use Rattle.std.specs.Int.Bits.{and_lt}
use Rattle.std.proofs.Math.Nat.{mod-lt}
use Rattle.sym_edges.specs.Addresses.{Range}
use Rattle.frame_entries.specs.declared.description.Entry.{Entry}
use Rattle.frame_entries.specs.FdeFields.{FdeFields}
use Rattle.frame_rows.specs.declared.row.CfaRule.{CfaRule}
use Rattle.frame_rows.specs.declared.row.CfaRule.TheVariants as cfa
use Rattle.frame_rows.specs.declared.row.Row.{Row}
use Rattle.frame_rows.specs.Rows.{row_at, rows_fault}
use Rattle.frame_rows.specs.Steps.{has_cfa}
use Rattle.frame_rows.proofs.EntryLemmas.{rows_have}
use Rattle.cfi_eval.specs.declared.registers.Regs.{Regs}
use Rattle.cfi_eval.specs.declared.memory.MemRun.{MemRun}
use Rattle.cfi_eval.specs.declared.outcome.Cause.{Cause}
use Rattle.cfi_eval.specs.declared.outcome.Outcome.{Outcome}
use Rattle.cfi_eval.specs.declared.outcome.Outcome.TheVariants.{Value, Undefined}
use Rattle.cfi_eval.specs.Bytes.{byte_at, number_at, word_at}
use Rattle.cfi_eval.specs.Known.{AreBytes, IsKnown}
use Rattle.expr_steps.specs.declared.operation.Operation.{Operation}
use Rattle.expr_steps.specs.declared.operation.Operation.TheVariants.{Constant, Breg, Deref, And, Minus, Mul, Plus, PlusUconst, Shl, Ge}
use Rattle.expr_steps.specs.declared.standing.Standing.{Standing}
use Rattle.expr_steps.specs.declared.standing.Standing.TheVariants.{Free, OverCfa}
use Rattle.expr_steps.specs.Operations.{operations}
use Rattle.expr_steps.specs.Standing.{standing}
use Rattle.expr_postfix.specs.ExprValue.{held, offset_from, fetched, onto, with_operation, go_on, value_over, beginning, value_by, expr_value}
use Rattle.rule_postfix.specs.RowValue.{known_value, value_now, at_cfa, cfa_value, row_frame}
use Rattle.frame_rows.specs.Rows.{expr_bytes}
use Rattle.rule_postfix.specs.Written.{written}
use Rattle.rule_postfix.specs.KnownCfa.{HasKnownCfa}
use Rattle.rule_postfix.proofs.MeaningLemmas.{low_held, high_held}
use Rattle.rule_postfix.proofs.WrittenLemmas.{AreWritten, written_are}

-- Words of memory.
number_step : (runs : List MemRun) (n a v : ℕ) (below : Bool) (low high : Option ℕ) → ((b : ℕ) → low ≡ Some b → b < 256) → ((h : ℕ) → high ≡ Some h → h < 256 ^ n)
    → cond below (option_and_then (λ b. option_map (λ h. b + 256 * h) high) low) None ≡ Some v → v < 256 ^ suc n
number_step runs n a v false low high small less is = absurd (cc)
number_step runs n a v true None high small less is = absurd (cc)
number_step runs n a v true (Some b) None small less is = absurd (cc)
number_step runs n a v true (Some b) (Some h) small less is =
    let first : b < 256 = small b refl in
    let rest : h < 256 ^ n = less h refl in
    let whole : b + 256 * h ≡ v = cc in
    subst (λ (k : ℕ). k < 256 ^ suc n) whole (omega (arith, first, rest))

number_low : (runs : List MemRun) (n a v : ℕ) → AreBytes runs → number_at runs n a ≡ Some v → v < 256 ^ n
unfolding number_at
number_low runs zero a v bytes is = let whole : 0 ≡ v = cc in omega (arith, whole)
number_low runs (suc n) a v bytes is = number_step runs n a v (nat_lt a (2 ^ 64)) (byte_at runs a) (number_at runs n (a + 1)) (bytes a) (λ h found. number_low runs n (a + 1) h bytes found) is

word_low : (runs : List MemRun) (a v : ℕ) → AreBytes runs → word_at runs a ≡ Some v → v < 2 ^ 64
unfolding word_at
word_low runs a v bytes is = number_low runs 8 a v bytes is

-- Numbers of 64 bits on a stack.
abbrev AllWords : List ℕ → Type 0
AllWords [] = Unit {0}
AllWords (v ∷ stack) = (v < 2 ^ 64) × AllWords stack

abbrev HasWords : Result (List ℕ) Cause → Type 0
HasWords (Ok stack) = AllWords stack
HasWords (Err why) = Unit {0}

abbrev IsWord : Result ℕ Cause → Type 0
IsWord (Ok v) = v < 2 ^ 64
IsWord (Err why) = Unit {0}

reduced : (n : ℕ) → n % 2 ^ 64 < 2 ^ 64
reduced n = mod-lt n (omega arith)

pushes : (stack : List ℕ) (v : Result ℕ Cause) → AllWords stack → IsWord v → HasWords (onto stack v)
pushes stack (Ok v) words is = (is, words)
pushes stack (Err why) words is = tt

offset_word : (register : ℕ) (offset : _) (v : Option ℕ) → IsWord (offset_from register offset v)
offset_word register offset None = tt
offset_word register offset (Some v) = reduced _

fetched_word : (memory : List MemRun) (a : ℕ) (word : Option ℕ) → AreBytes memory → word_at memory a ≡ word → IsWord (fetched a word)
fetched_word memory a None bytes is = tt
fetched_word memory a (Some v) bytes is = word_low memory a v bytes is

compared : (less : Bool) → cond less 0 1 < 2 ^ 64
compared true = omega arith
compared false = omega arith

operation_keeps : (regs : Regs) (memory : List MemRun) (operation : Operation) (stack : List ℕ) → AreBytes memory → AllWords stack → HasWords (with_operation regs memory operation stack)
unfolding with_operation
operation_keeps regs memory (Constant c) stack bytes words = (reduced c, words)
operation_keeps regs memory (Breg register offset) stack bytes words = pushes stack _ words (offset_word register offset (held regs register))
operation_keeps regs memory Deref [] bytes words = tt
operation_keeps regs memory Deref (a ∷ stack) bytes words = pushes stack _ words.1 (fetched_word memory a (word_at memory a) bytes refl)
operation_keeps regs memory And [] bytes words = tt
operation_keeps regs memory And (b ∷ []) bytes words = tt
operation_keeps regs memory And (b ∷ a ∷ stack) bytes words = (and_lt 64 a b words.1.0 words.0, words.1.1)
operation_keeps regs memory Minus [] bytes words = tt
operation_keeps regs memory Minus (b ∷ []) bytes words = tt
operation_keeps regs memory Minus (b ∷ a ∷ stack) bytes words = (reduced _, words.1.1)
operation_keeps regs memory Mul [] bytes words = tt
operation_keeps regs memory Mul (b ∷ []) bytes words = tt
operation_keeps regs memory Mul (b ∷ a ∷ stack) bytes words = (reduced _, words.1.1)
operation_keeps regs memory Plus [] bytes words = tt
operation_keeps regs memory Plus (b ∷ []) bytes words = tt
operation_keeps regs memory Plus (b ∷ a ∷ stack) bytes words = (reduced _, words.1.1)
operation_keeps regs memory (PlusUconst addend) [] bytes words = tt
operation_keeps regs memory (PlusUconst addend) (a ∷ stack) bytes words = (reduced _, words.1)
operation_keeps regs memory Shl [] bytes words = tt
operation_keeps regs memory Shl (b ∷ []) bytes words = tt
operation_keeps regs memory Shl (b ∷ a ∷ stack) bytes words = (reduced _, words.1.1)
operation_keeps regs memory Ge [] bytes words = tt
operation_keeps regs memory Ge (b ∷ []) bytes words = tt
operation_keeps regs memory Ge (b ∷ a ∷ stack) bytes words = (compared (int_lt (cast_signed w64 a) (cast_signed w64 b)), words.1.1)

-- The value of an expression that begins without the CFA.
onward : (regs : Regs) (memory : List MemRun) (later : List Operation) (next : Result (List ℕ) Cause) → HasWords next
    → ((stack : List ℕ) → AllWords stack → IsKnown (value_over regs memory later stack)) → IsKnown (go_on next (value_over regs memory later))
onward regs memory later (Ok stack) all known = known stack all
onward regs memory later (Err why) all known = tt

over_known : (regs : Regs) (memory : List MemRun) (given : List Operation) (stack : List ℕ) → AreBytes memory → AllWords stack → IsKnown (value_over regs memory given stack)
unfolding value_over
over_known regs memory [] [] bytes words = tt
over_known regs memory [] (v ∷ stack) bytes words = words.0
over_known regs memory (operation ∷ later) stack bytes words =
    onward regs memory later (with_operation regs memory operation stack) (operation_keeps regs memory operation stack bytes words) (λ next all. over_known regs memory later next bytes all)

begun_known : (regs : Regs) (memory : List MemRun) (begins : Option Standing) (given : Option (List Operation)) → AreBytes memory → IsKnown (value_by regs memory (beginning Undefined begins) given)
begun_known regs memory begins None bytes = tt
begun_known regs memory None (Some given) bytes = over_known regs memory given [] bytes tt
begun_known regs memory (Some Free) (Some given) bytes = over_known regs memory given [] bytes tt
begun_known regs memory (Some OverCfa) (Some given) bytes = tt

expr_known : (regs : Regs) (memory : List MemRun) (bytes : List ℕ) → AreBytes memory → IsKnown (expr_value regs memory Undefined false bytes)
unfolding expr_value
expr_known regs memory bytes are = begun_known regs memory (standing false bytes) (operations bytes) are

-- The CFA, given its rule.
base_known : (register : ℕ) (offset : _) (v : Option ℕ) → IsKnown (at_cfa (known_value register v) offset Value)
base_known register offset None = tt
base_known register offset (Some v) = reduced _

rule_known : (e : FdeFields) (regs : Regs) (memory : List MemRun) (rule : CfaRule) → AreBytes memory → IsKnown (cfa_value e regs memory (Some rule))
unfolding value_now
rule_known e regs memory (cfa.Base register offset) bytes = base_known register offset (slice_index_or regs.values register None)
rule_known e regs memory (cfa.Expr place) bytes = expr_known regs memory (expr_bytes e place) bytes

some_known : (e : FdeFields) (regs : Regs) (memory : List MemRun) (row : Row) (rule : Option CfaRule) → row.cfa ≡ rule → has_cfa row ≡ true → AreBytes memory → IsKnown (cfa_value e regs memory rule)
some_known e regs memory row None is has bytes = absurd (true≢false (sym has ∙ ap is_some is))
some_known e regs memory row (Some rule) is has bytes = rule_known e regs memory rule bytes

entry_known : (e : FdeFields) → rows_fault e ≡ None → HasKnownCfa e
unfolding row_frame
entry_known e none = record { at = λ a regs memory held bytes. some_known e regs memory (row_at e a) (row_at e a).cfa refl ((rows_have e none).everywhere a (low_held a e held) (high_held a e held)) bytes }

all_known : (entries : List FdeFields) → AreWritten entries → AllByRecursion HasKnownCfa entries
all_known [] are = tt
all_known (e ∷ entries) are = (entry_known e are.0.rows, all_known entries are.1)

-- The CFA of each written entry is known.
pub written_known : (code : List Range) (first second : List Entry) → AllByRecursion HasKnownCfa (written code first second)
written_known code first second = all_known (written code first second) (written_are code first second)
