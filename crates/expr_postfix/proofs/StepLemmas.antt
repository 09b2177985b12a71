-- The words of a step do what its operations do. The lemmas are for the law `words_have_the_value`.
use Rattle.std.proofs.Common.{◌≡◌, ◌<◌, ◌≤◌, ◌+◌, ◌-◌, ◌*◌, ◌/◌, ◌%◌, ◌^◌, ℕ, zero, suc, ℤ, pos, Bool, true, false, nat_eq, nat_lt, cond, codes, List, [], ◌∷◌, ◌++◌, length, Option, None, Some, Result, Ok, Err, refl, sym, ap, ◌∙◌, add_comm, arith}
use Rattle.std.specs.Prelude.{bit_and}
use Rattle.std.specs.Int.{w64, cast_signed, cast_unsigned}
use Rattle.std.specs.List.{slice_index_or}
use Rattle.std.proofs.Math.Nat.{mod-add-mod}
use Rattle.std.proofs.Math.Pow.{pow_mono}
use Rattle.std.proofs.lemmas.Bool.{eqb-true, ne_eqb, ltb-true, ltb-false}
use Rattle.std.proofs.lemmas.Int.{of_z-to_z, to_z_pos}
use Rattle.std.proofs.lemmas.Nat.{and_mask, pow_pos, pow_below, div-mul-add, mod_below}
use Rattle.sym_rules.specs.declared.rules.Token.{Token}
use Rattle.sym_rules.specs.declared.rules.Token.TheVariants as token
use Rattle.cfi_eval.specs.declared.registers.Regs.{Regs}
use Rattle.cfi_eval.specs.declared.memory.MemRun.{MemRun}
use Rattle.cfi_eval.specs.declared.outcome.Cause.{Cause}
use Rattle.cfi_eval.specs.declared.outcome.Outcome.{Outcome}
use Rattle.cfi_eval.specs.Bytes.{word_at}
use Rattle.cfi_eval.specs.Postfix.{known_or_missing, register_value, name_value, word_value, pushed, with_token, or_failed, postfix_from}
use Rattle.expr_steps.specs.declared.operation.Operation.{Operation}
use Rattle.expr_steps.specs.declared.operation.Operation.TheVariants as op
use Rattle.expr_steps.specs.declared.step.Step.{Step}
use Rattle.expr_steps.specs.declared.step.Step.TheVariants as step
use Rattle.expr_steps.specs.Steps.{mask_size}
use Rattle.expr_steps.specs.Standing.{takes}
use Rattle.expr_postfix.specs.ExprTokens.{number, step_tokens}
use Rattle.expr_postfix.specs.ExprValue.{held, offset_from, fetched, is_at_least, onto, with_operation, go_on, value_over}

-- After an `and`, the number on top is below its power of two.
abbrev pub IsKept : Option ℕ → List ℕ → Type 0
IsKept None stack = Unit {0}
IsKept (Some size) [] = Unit {0}
IsKept (Some size) (v ∷ stack) = (v < size) × (size ≤ 2 ^ 62)

-- If nothing failed, one number has replaced those that the step took.
abbrev pub IfDone : Result (List ℕ) Cause → Option ℕ → ℕ → Type 0
IfDone (Ok next) keeps depth = (length next ≡ depth) × IsKept keeps next
IfDone (Err why) keeps depth = Unit {0}

-- The words of a step and its operations leave the same stack, or fail for the same cause.
pub record Agrees (regs : Regs) (memory : List MemRun) (given : Option Outcome) (keeps : Option ℕ) (s : Step) (ops : List Operation) (stack : List ℕ) : Type 0 where
  pub did : Result (List ℕ) Cause
  pub words : (later : List Token) → postfix_from regs memory given (step_tokens s ++ later) stack ≡ or_failed did (postfix_from regs memory given later)
  pub does : (later : List Operation) → value_over regs memory (ops ++ later) stack ≡ go_on did (value_over regs memory later)
  pub left : IfDone did keeps (length stack - takes s + 1)

-- A number as a word.
number_back : (n : ℕ) → cast_unsigned w64 (cast_signed w64 (n % 2 ^ 64)) ≡ n % 2 ^ 64
number_back n = of_z-to_z w64 (n % 2 ^ 64) (omega arith)

number_word : (regs : Regs) (memory : List MemRun) (given : Option Outcome) (n : ℕ) (later : List Token) (stack : List ℕ)
    → postfix_from regs memory given (number n ∷ later) stack ≡ postfix_from regs memory given later (n % 2 ^ 64 ∷ stack)
unfolding postfix_from with_token
number_word regs memory given n later stack = ap (λ v. postfix_from regs memory given later (v ∷ stack)) (number_back n)

small_word : (regs : Regs) (memory : List MemRun) (given : Option Outcome) (n : ℕ) (later : List Token) (stack : List ℕ) → n < 2 ^ 64
    → postfix_from regs memory given (number n ∷ later) stack ≡ postfix_from regs memory given later (n ∷ stack)
small_word regs memory given n later stack small =
    let same : n % 2 ^ 64 ≡ n = omega arith in
    number_word regs memory given n later stack ∙ ap (λ v. postfix_from regs memory given later (v ∷ stack)) same

pub constant_agrees : (regs : Regs) (memory : List MemRun) (given : Option Outcome) (c : ℕ) (stack : List ℕ) → Agrees regs memory given None (step.Constant c) (op.Constant c ∷ []) stack
unfolding value_over with_operation
constant_agrees regs memory given c stack = record {
  did = Ok (c % 2 ^ 64 ∷ stack);
  words = λ later. number_word regs memory given c later stack;
  does = λ later. refl;
  left = (omega arith, tt);
}

-- A register with an offset.
known_words : (regs : Regs) (memory : List MemRun) (given : Option Outcome) (t : Token) (register : ℕ) (offset : ℤ) (value : Option ℕ) (later : List Token) (stack : List ℕ)
    → with_token regs memory given t stack ≡ pushed (known_or_missing register value) stack
    → postfix_from regs memory given (t ∷ token.Number offset ∷ token.Add ∷ later) stack ≡ or_failed (onto stack (offset_from register offset value)) (postfix_from regs memory given later)
unfolding postfix_from with_token
known_words regs memory given t register offset None later stack is = ap (λ r. or_failed r (postfix_from regs memory given (token.Number offset ∷ token.Add ∷ later))) is
known_words regs memory given t register offset (Some v) later stack is = ap (λ r. or_failed r (postfix_from regs memory given (token.Number offset ∷ token.Add ∷ later))) is

register_words : (regs : Regs) (memory : List MemRun) (given : Option Outcome) (register : ℕ) (offset : ℤ) (is_rip : Bool) (later : List Token) (stack : List ℕ) → nat_eq register 16 ≡ is_rip
    → postfix_from regs memory given (cond is_rip (token.Other (codes "$rip")) (token.Reg register) ∷ token.Number offset ∷ token.Add ∷ later) stack
    ≡ or_failed (onto stack (offset_from register offset (cond is_rip regs.rip (slice_index_or regs.values register None)))) (postfix_from regs memory given later)
unfolding with_token register_value name_value
register_words regs memory given register offset true later stack is =
    known_words regs memory given (token.Other (codes "$rip")) register offset regs.rip later stack
    (ap (λ r. pushed (known_or_missing r regs.rip) stack) (sym (eqb-true register 16 is)))
register_words regs memory given register offset false later stack is =
    known_words regs memory given (token.Reg register) register offset (slice_index_or regs.values register None) later stack refl

onto_done : (stack : List ℕ) (r : Result ℕ Cause) → IfDone (onto stack r) None (length stack - 0 + 1)
onto_done stack (Ok v) = (omega arith, tt)
onto_done stack (Err why) = tt

pub register_agrees : (regs : Regs) (memory : List MemRun) (given : Option Outcome) (register : ℕ) (offset : ℤ) (stack : List ℕ)
    → Agrees regs memory given None (step.Register register offset) (op.Breg register offset ∷ []) stack
unfolding value_over with_operation
register_agrees regs memory given register offset stack = record {
  did = onto stack (offset_from register offset (held regs register));
  words = λ later. register_words regs memory given register offset (nat_eq register 16) later stack refl;
  does = λ later. refl;
  left = onto_done stack (offset_from register offset (held regs register));
}

-- The word at an address.
fetch_words : (regs : Regs) (memory : List MemRun) (given : Option Outcome) (a : ℕ) (word : Option ℕ) (later : List Token) (stack : List ℕ) → word_at memory a ≡ word
    → postfix_from regs memory given (token.Fetch ∷ later) (a ∷ stack) ≡ or_failed (onto stack (fetched a word)) (postfix_from regs memory given later)
unfolding postfix_from with_token word_value
fetch_words regs memory given a None later stack is = rw is refl
fetch_words regs memory given a (Some v) later stack is = rw is refl

onto_less : (stack : List ℕ) (r : Result ℕ Cause) → IfDone (onto stack r) None (suc (length stack) - 1 + 1)
onto_less stack (Ok v) = (omega arith, tt)
onto_less stack (Err why) = tt

pub fetch_agrees : (regs : Regs) (memory : List MemRun) (given : Option Outcome) (stack : List ℕ) → 1 ≤ length stack → Agrees regs memory given None step.Fetch (op.Deref ∷ []) stack
unfolding value_over with_operation
fetch_agrees regs memory given [] some = absurd (omega arith)
fetch_agrees regs memory given (a ∷ stack) some = record {
  did = onto stack (fetched a (word_at memory a));
  words = λ later. fetch_words regs memory given a (word_at memory a) later stack refl;
  does = λ later. refl;
  left = onto_less stack (fetched a (word_at memory a));
}

-- Sums and differences.
pub add_agrees : (regs : Regs) (memory : List MemRun) (given : Option Outcome) (stack : List ℕ) → 2 ≤ length stack → Agrees regs memory given None step.Add (op.Plus ∷ []) stack
unfolding value_over with_operation postfix_from with_token
add_agrees regs memory given [] some = absurd (omega arith)
add_agrees regs memory given (b ∷ []) some = absurd (omega arith)
add_agrees regs memory given (b ∷ a ∷ stack) some = record { did = Ok ((a + b) % 2 ^ 64 ∷ stack); words = λ later. refl; does = λ later. refl; left = (omega arith, tt) }

pub subtract_agrees : (regs : Regs) (memory : List MemRun) (given : Option Outcome) (stack : List ℕ) → 2 ≤ length stack → Agrees regs memory given None step.Subtract (op.Minus ∷ []) stack
unfolding value_over with_operation postfix_from with_token
subtract_agrees regs memory given [] some = absurd (omega arith)
subtract_agrees regs memory given (b ∷ []) some = absurd (omega arith)
subtract_agrees regs memory given (b ∷ a ∷ stack) some = record { did = Ok ((a + (2 ^ 64 - b)) % 2 ^ 64 ∷ stack); words = λ later. refl; does = λ later. refl; left = (omega arith, tt) }

pub multiply_agrees : (regs : Regs) (memory : List MemRun) (given : Option Outcome) (stack : List ℕ) → 2 ≤ length stack → Agrees regs memory given None step.Multiply (op.Mul ∷ []) stack
unfolding value_over with_operation postfix_from with_token
multiply_agrees regs memory given [] some = absurd (omega arith)
multiply_agrees regs memory given (b ∷ []) some = absurd (omega arith)
multiply_agrees regs memory given (b ∷ a ∷ stack) some = record { did = Ok ((a * b) % 2 ^ 64 ∷ stack); words = λ later. refl; does = λ later. refl; left = (omega arith, tt) }

-- A constant that is added.
sum_later : (a addend : ℕ) → (a + addend % 2 ^ 64) % 2 ^ 64 ≡ (a + addend) % 2 ^ 64
sum_later a addend = ap (λ n. n % 2 ^ 64) (add_comm a (addend % 2 ^ 64)) ∙ mod-add-mod addend (2 ^ 64) a ∙ ap (λ n. n % 2 ^ 64) (add_comm addend a)

add_words : (regs : Regs) (memory : List MemRun) (given : Option Outcome) (a b : ℕ) (later : List Token) (stack : List ℕ)
    → postfix_from regs memory given (token.Add ∷ later) (b ∷ a ∷ stack) ≡ postfix_from regs memory given later ((a + b) % 2 ^ 64 ∷ stack)
unfolding postfix_from with_token
add_words regs memory given a b later stack = refl

pub add_constant_agrees : (regs : Regs) (memory : List MemRun) (given : Option Outcome) (addend : ℕ) (stack : List ℕ) → 1 ≤ length stack
    → Agrees regs memory given None (step.AddConstant addend) (op.PlusUconst addend ∷ []) stack
unfolding value_over with_operation
add_constant_agrees regs memory given addend [] some = absurd (omega arith)
add_constant_agrees regs memory given addend (a ∷ stack) some = record {
  did = Ok ((a + addend) % 2 ^ 64 ∷ stack);
  words = λ later.
      number_word regs memory given addend (token.Add ∷ later) (a ∷ stack)
      ∙ add_words regs memory given a (addend % 2 ^ 64) later stack
      ∙ ap (λ v. postfix_from regs memory given later (v ∷ stack)) (sum_later a addend);
  does = λ later. refl;
  left = (omega arith, tt);
}

-- An `and` with a mask is the remainder of a division by a power of two.
pub record IsMask (n c size : ℕ) : Type 0 where
  pub bits : ℕ
  pub below : bits < n
  pub power : size ≡ 2 ^ bits
  pub mask : c ≡ 2 ^ bits - 1

mask_by : (n c size : ℕ) (here : Bool) → nat_eq c (2 ^ n - 1) ≡ here → (mask_size n c ≡ Some size → IsMask n c size) → cond here (Some (2 ^ n)) (mask_size n c) ≡ Some size → IsMask (suc n) c size
mask_by n c size true is later found =
    let same : 2 ^ n ≡ size = cc in
    record { bits = n; below = omega arith; power = sym same; mask = eqb-true c (2 ^ n - 1) is }
mask_by n c size false is later found = let deeper = later found in record { bits = deeper.bits; below = omega (arith, deeper.below); power = deeper.power; mask = deeper.mask }

pub mask_is : (n c size : ℕ) → mask_size n c ≡ Some size → IsMask n c size
unfolding mask_size
mask_is zero c size found = cc
mask_is (suc n) c size found = mask_by n c size (nat_eq c (2 ^ n - 1)) refl (mask_is n c size) found

remainder_words : (regs : Regs) (memory : List MemRun) (given : Option Outcome) (v size : ℕ) (later : List Token) (stack : List ℕ) → 0 < size
    → postfix_from regs memory given (token.Rem ∷ later) (size ∷ v ∷ stack) ≡ postfix_from regs memory given later (v % size ∷ stack)
unfolding postfix_from with_token
remainder_words regs memory given v size later stack some =
    let other : nat_eq size 0 ≡ false = ne_eqb size 0 (λ e. omega arith) in
    rw other refl

masked_number : (v c size bits : ℕ) → bits < 63 → size ≡ 2 ^ bits → c ≡ 2 ^ bits - 1 → bit_and v (c % 2 ^ 64) ≡ v % size
masked_number v c size bits low power mask =
    let small : 2 ^ bits < 2 ^ 63 = pow_below bits 63 low in
    let same : c % 2 ^ 64 ≡ 2 ^ bits - 1 = omega arith in
    ap (bit_and v) same ∙ and_mask v bits ∙ ap (λ n. v % n) (sym power)

kept_low : (c size : ℕ) → IsMask 63 c size → size ≤ 2 ^ 62
kept_low c size mask =
    let fits : mask.bits ≤ 62 = omega (arith, mask.below) in
    let low : 2 ^ mask.bits ≤ 2 ^ 62 = pow_mono fits in
    omega (arith, mask.power)

pub remainder_agrees : (regs : Regs) (memory : List MemRun) (given : Option Outcome) (c size : ℕ) (stack : List ℕ) → IsMask 63 c size → 1 ≤ length stack
    → Agrees regs memory given (Some size) (step.Remainder size) (op.Constant c ∷ op.And ∷ []) stack
unfolding value_over with_operation
remainder_agrees regs memory given c size [] mask some = absurd (omega arith)
remainder_agrees regs memory given c size (v ∷ stack) mask some =
    let low : 2 ^ mask.bits < 2 ^ 63 = pow_below mask.bits 63 mask.below in
    let positive : 0 < size = omega (arith, pow_pos mask.bits, mask.power) in
    record {
      did = Ok (v % size ∷ stack);
      words = λ later.
          small_word regs memory given size (token.Rem ∷ later) (v ∷ stack) (omega (arith, mask.power))
          ∙ remainder_words regs memory given v size later stack positive;
      does = λ later. ap (λ n. value_over regs memory later (n ∷ stack)) (masked_number v c size mask.bits mask.below mask.power mask.mask);
      left = (omega arith, (mod_below v size positive, kept_low c size mask));
    }

-- A `shl` by a constant is a product.
multiply_words : (regs : Regs) (memory : List MemRun) (given : Option Outcome) (a b : ℕ) (later : List Token) (stack : List ℕ)
    → postfix_from regs memory given (token.Mul ∷ later) (b ∷ a ∷ stack) ≡ postfix_from regs memory given later ((a * b) % 2 ^ 64 ∷ stack)
unfolding postfix_from with_token
multiply_words regs memory given a b later stack = refl

pub product_agrees : (regs : Regs) (memory : List MemRun) (given : Option Outcome) (c : ℕ) (stack : List ℕ) → c ≤ 62 → 1 ≤ length stack
    → Agrees regs memory given None (step.Product (2 ^ c)) (op.Constant c ∷ op.Shl ∷ []) stack
unfolding value_over with_operation
product_agrees regs memory given c [] low some = absurd (omega arith)
product_agrees regs memory given c (v ∷ stack) low some =
    let same : c % 2 ^ 64 ≡ c = omega arith in
    record {
      did = Ok ((v * 2 ^ c) % 2 ^ 64 ∷ stack);
      words = λ later.
          small_word regs memory given (2 ^ c) (token.Mul ∷ later) (v ∷ stack) (pow_below c 64 (omega arith))
          ∙ multiply_words regs memory given v (2 ^ c) later stack;
      does = λ later. ap (λ n. value_over regs memory later ((v * 2 ^ n) % 2 ^ 64 ∷ stack)) same;
      left = (omega arith, tt);
    }

-- A `ge` of a number below a power of two, expressed by a division.
divide_words : (regs : Regs) (memory : List MemRun) (given : Option Outcome) (a b : ℕ) (later : List Token) (stack : List ℕ) → 0 < b
    → postfix_from regs memory given (token.Div ∷ later) (b ∷ a ∷ stack) ≡ postfix_from regs memory given later (a / b ∷ stack)
unfolding postfix_from with_token
divide_words regs memory given a b later stack some =
    let other : nat_eq b 0 ≡ false = ne_eqb b 0 (λ e. omega arith) in
    rw other refl

reaching_words : (regs : Regs) (memory : List MemRun) (given : Option Outcome) (v lift size : ℕ) (later : List Token) (stack : List ℕ) → v < size → size ≤ 2 ^ 62 → lift ≤ size
    → postfix_from regs memory given (number lift ∷ token.Add ∷ number size ∷ token.Div ∷ later) (v ∷ stack) ≡ postfix_from regs memory given later ((v + lift) / size ∷ stack)
reaching_words regs memory given v lift size later stack below low lifts =
    let whole : (v + lift) % 2 ^ 64 ≡ v + lift = omega arith in
    small_word regs memory given lift (token.Add ∷ number size ∷ token.Div ∷ later) (v ∷ stack) (omega arith)
    ∙ add_words regs memory given v lift (number size ∷ token.Div ∷ later) stack
    ∙ ap (λ n. postfix_from regs memory given (number size ∷ token.Div ∷ later) (n ∷ stack)) whole
    ∙ small_word regs memory given size (token.Div ∷ later) ((v + lift) ∷ stack) (omega arith)
    ∙ divide_words regs memory given (v + lift) size later stack (omega arith)

above : (v c size : ℕ) → v < size → c ≤ size → c ≤ v → 1 ≡ (v + (size - c)) / size
above v c size below less more =
    let rest : v + (size - c) ≡ 1 * size + (v - c) = omega arith in
    sym (ap (λ n. n / size) rest ∙ div-mul-add 1 size (v - c) (omega arith))

under : (v c size : ℕ) → c ≤ size → v < c → 0 ≡ (v + (size - c)) / size
under v c size less more =
    let rest : v + (size - c) ≡ 0 * size + (v + (size - c)) = omega arith in
    sym (ap (λ n. n / size) rest ∙ div-mul-add 0 size (v + (size - c)) (omega arith))

compared_by : (v c size : ℕ) (less : Bool) → nat_lt v c ≡ less → v < size → c ≤ size → cond less 0 1 ≡ (v + (size - c)) / size
compared_by v c size true is below most = under v c size most (ltb-true v c is)
compared_by v c size false is below most = above v c size below most (ltb-false v c is)

compared : (v c size : ℕ) → v < size → c ≤ size → size ≤ 2 ^ 62 → is_at_least (cast_signed w64 v) (cast_signed w64 (c % 2 ^ 64)) ≡ (v + (size - c)) / size
compared v c size below most low =
    let whole : c % 2 ^ 64 ≡ c = omega arith in
    let left : cast_signed w64 v ≡ pos v = to_z_pos w64 v (omega arith) in
    let right : cast_signed w64 (c % 2 ^ 64) ≡ pos c = ap (cast_signed w64) whole ∙ to_z_pos w64 c (omega arith) in
    ap (λ a. is_at_least a (cast_signed w64 (c % 2 ^ 64))) left ∙ ap (is_at_least (pos v)) right ∙ compared_by v c size (nat_lt v c) refl below most

pub reaches_agrees : (regs : Regs) (memory : List MemRun) (given : Option Outcome) (c size : ℕ) (stack : List ℕ) → c ≤ size → IsKept (Some size) stack → 1 ≤ length stack
    → Agrees regs memory given None (step.Reaches (size - c) size) (op.Constant c ∷ op.Ge ∷ []) stack
unfolding value_over with_operation
reaches_agrees regs memory given c size [] most kept some = absurd (omega arith)
reaches_agrees regs memory given c size (v ∷ stack) most kept some = record {
  did = Ok ((v + (size - c)) / size ∷ stack);
  words = λ later. reaching_words regs memory given v (size - c) size later stack kept.0 kept.1 (omega arith);
  does = λ later. ap (λ n. value_over regs memory later (n ∷ stack)) (compared v c size kept.0 most kept.1);
  left = (omega arith, tt);
}
