-- How an expression uses the CFA, computed step by step; for `find_standing`.
use Rattle.std.proofs.Common.{◌≡◌, ◌≤◌, ◌<◌, ◌+◌, ◌-◌, ℕ, Bool, true, false, nat_le, ◌&&◌, cond, List, [], ◌∷◌, Option, None, Some, refl, sym, ap, ◌∙◌, add_assoc, arith}
use Rattle.std.specs.List.{sum_by}
use Rattle.std.specs.Option.{option_and_then}
use Rattle.std.proofs.lemmas.Bool.{lt-leb}
use Rattle.std.proofs.lemmas.List.Sums.{sum_by-cons}
use Rattle.expr_steps.specs.declared.step.Step.{Step}
use Rattle.expr_steps.specs.declared.step.Step.TheVariants as step
use Rattle.expr_steps.specs.declared.standing.Standing.{Standing}
use Rattle.expr_steps.specs.declared.standing.Standing.TheVariants.{Free, OverCfa}
use Rattle.expr_steps.specs.Steps.{in_front, steps}
use Rattle.expr_steps.specs.Standing.{takes, words, after_step, depth_after, is_one, standing_by, standing_of, standing}
use Rattle.expr_steps.specs.internal.Reading.{IsAtMost, stands, standing_behind}

-- A step has at least one word, and raises the depth of the stack by at most one.
pub some_words : (s : Step) → 0 < words s
some_words (step.Constant value) = omega arith
some_words (step.Register register offset) = omega arith
some_words step.Fetch = omega arith
some_words step.Add = omega arith
some_words step.Subtract = omega arith
some_words step.Multiply = omega arith
some_words (step.AddConstant addend) = omega arith
some_words (step.Remainder size) = omega arith
some_words (step.Product factor) = omega arith
some_words (step.Reaches lift size) = omega arith

deeper_by : (fits : Bool) (most depth taken : ℕ) → depth ≤ most → IsAtMost (most + 1) (cond fits (Some (depth - taken + 1)) None)
deeper_by true most depth taken low = omega arith
deeper_by false most depth taken low = tt

weaken : (low high : ℕ) (depth : Option ℕ) → low ≤ high → IsAtMost low depth → IsAtMost high depth
weaken low high None less most = tt
weaken low high (Some depth) less most = omega (arith, most)

deeper_from : (s : Step) (most : ℕ) (depth : Option ℕ) → IsAtMost most depth → IsAtMost (most + 1) (option_and_then (after_step s) depth)
deeper_from s most None low = tt
deeper_from s most (Some depth) low = deeper_by (nat_le (takes s) depth) most depth (takes s) low

pub deeper : (s : Step) (count more : ℕ) (depth next : Option ℕ) → more ≡ count + words s → next ≡ option_and_then (after_step s) depth → IsAtMost (count + 1) depth → IsAtMost (more + 1) next
deeper s count more depth next is after low =
    let some : 0 < words s = some_words s in
    let here : IsAtMost (count + 1 + 1) (option_and_then (after_step s) depth) = deeper_from s (count + 1) depth low in
    rw after (weaken (count + 1 + 1) (more + 1) (option_and_then (after_step s) depth) (omega arith) here)

-- One step more is read.
stands_step : (start : Bool) (count : ℕ) (free over : Option ℕ) (s : Step) (later : List Step)
    → stands start count free over (s ∷ later) ≡ stands start (count + words s) (option_and_then (after_step s) free) (option_and_then (after_step s) over) later
unfolding stands depth_after
stands_step start count free over s later =
    ap (λ n. standing_by start n (depth_after later (option_and_then (after_step s) free)) (depth_after later (option_and_then (after_step s) over)))
    (ap (λ n. count + n) (sum_by-cons words s later) ∙ sym (add_assoc count (words s) (sum_by words later)))

stands_front : (start : Bool) (count : ℕ) (free over : Option ℕ) (s : Step) (left : Option (List Step))
    → standing_behind start count free over (in_front s left) ≡ standing_behind start (count + words s) (option_and_then (after_step s) free) (option_and_then (after_step s) over) left
unfolding standing_behind
stands_front start count free over s None = refl
stands_front start count free over s (Some later) = stands_step start count free over s later

pub stands_more : (start : Bool) (count more : ℕ) (free over free_next over_next : Option ℕ) (s : Step) (old new : Option (List Step)) → old ≡ in_front s new → more ≡ count + words s
    → free_next ≡ option_and_then (after_step s) free → over_next ≡ option_and_then (after_step s) over
    → standing_behind start count free over old ≡ standing_behind start more free_next over_next new
stands_more start count more free over free_next over_next s old new is words_is free_is over_is =
    rw (is, words_is, free_is, over_is) (stands_front start count free over s new)

-- No step is left.
pub stands_all : (start : Bool) (count : ℕ) (free over : Option ℕ) (left : Option (List Step)) → left ≡ Some [] → standing_behind start count free over left ≡ standing_by start count free over
unfolding standing_behind stands depth_after
stands_all start count free over left is = rw is (ap (λ n. standing_by start n free over) (omega arith))

-- There are too many words.
both_false : (a b : Bool) → b ≡ false → a && b ≡ false
both_false true b is = is
both_false false b is = refl

by_long : (start one_free one_over few fewer : Bool) → few ≡ false → fewer ≡ false → (cond (one_free && few) (Some Free) (cond (start && one_over && fewer) (Some OverCfa) None)) ≡ None
by_long start one_free one_over few fewer long longer = rw (both_false one_free few long, both_false (start && one_over) fewer longer) refl

long_by : (start : Bool) (count : ℕ) (free over : Option ℕ) → 1024 < count → standing_by start count free over ≡ None
unfolding standing_by
long_by start count free over long = by_long start (is_one free) (is_one over) (nat_le count 1024) (nat_le (count + 1) 1024) (lt-leb count 1024 long) (lt-leb (count + 1) 1024 (omega arith))

long_behind : (start : Bool) (count : ℕ) (free over : Option ℕ) (left : Option (List Step)) → 1024 < count → standing_behind start count free over left ≡ None
unfolding standing_behind stands
long_behind start count free over None long = refl
long_behind start count free over (Some later) long = long_by start (count + sum_by words later) (depth_after later free) (depth_after later over) (omega arith)

pub stands_long : (start : Bool) (count more : ℕ) (free over : Option ℕ) (s : Step) (old new : Option (List Step)) → old ≡ in_front s new → more ≡ count + words s → 1024 < more
    → standing_behind start count free over old ≡ None
stands_long start count more free over s old new is words_is long =
    ap (standing_behind start count free over) is ∙ stands_front start count free over s new
    ∙ long_behind start (count + words s) (option_and_then (after_step s) free) (option_and_then (after_step s) over) new (omega arith)

-- The operations that are left are not made of steps.
pub stands_not : (start : Bool) (count : ℕ) (free over : Option ℕ) (left : Option (List Step)) → left ≡ None → standing_behind start count free over left ≡ None
unfolding standing_behind
stands_not start count free over left is = rw is refl

-- The result of the loop, from the first step on, is the one that is defined.
from_first : (start : Bool) (given : List Step) → stands start 0 (Some 0) (Some 1) given ≡ standing_of start given
unfolding stands standing_of
from_first start given = ap (λ n. standing_by start n (depth_after given (Some 0)) (depth_after given (Some 1))) (omega arith)

all_from : (start : Bool) (left : Option (List Step)) → standing_behind start 0 (Some 0) (Some 1) left ≡ option_and_then (standing_of start) left
unfolding standing_behind
all_from start None = refl
all_from start (Some given) = from_first start given

pub standing_is : (start : Bool) (bytes : List ℕ) (r : Option Standing) → standing_behind start 0 (Some 0) (Some 1) (steps bytes) ≡ r → r ≡ standing start bytes
unfolding standing
standing_is start bytes r is = sym is ∙ all_from start (steps bytes)
