-- Worked examples: the forms of words, and which rules have one form.
use Rattle.std.proofs.Common.{◌≡◌, Bool, true, false, List, [], ◌∷◌, ◌++◌, ◌-◌, ◌^◌, codes, Result, Ok, Err, refl}
use Prim.Native.String.{String}
use Rattle.sym_rules.specs.declared.rules.Target.TheVariants as target
use Rattle.sym_rules.specs.declared.rules.RuleText.{RuleText}
use Rattle.sym_records.specs.declared.line.SymLine.{SymLine}
use Rattle.sym_records.specs.declared.line.SymLine.TheVariants.{Init}
use Rattle.sym_records.specs.Reading.{reading}
use Rattle.sym_judge.specs.declared.terms.Base.TheVariants as base
use Rattle.sym_judge.specs.declared.terms.Term.TheVariants.{Plain, Fetched}
use Rattle.sym_judge.specs.Forms.{sum, Form, of_term, rule_form, same_form}
use Rattle.sym_judge.proofs.Computing.{sym_judge_computes}

-- The rules of the only INIT of a text.
abbrev init_rules : List SymLine → List RuleText
init_rules (head ∷ Init address size rules ∷ []) = rules
init_rules _ = []

abbrev rules_in : {F : Type 0} → Result (List SymLine) F → List RuleText
rules_in (Ok lines) = init_rules lines
rules_in (Err fault) = []

unfoldable rules : String → List RuleText
rules text = rules_in (reading (codes "MODULE a b c d\nSTACK CFI INIT 0 1 " ++ codes text))

unfoldable cfa : String → Form
unfolding rules
cfa text = rule_form target.Cfa (rules text)

unfoldable rbp : String → Form
unfolding rules
rbp text = rule_form (target.Reg 6) (rules text)

unfoldable cfas_agree : String → String → Bool
unfolding cfa
cfas_agree a b = same_form (cfa a) (cfa b)

unfoldable rbps_agree : String → String → Bool
unfolding rbp
rbps_agree a b = same_form (rbp a) (rbp b)

-- A sum of a register and a number, in either order, and a difference.
a_sum : cfa ".cfa: $rsp 16 +" ≡ of_term (Plain (sum (base.Register 7) 16))
unfolding cfa sym_judge_computes
a_sum = refl

the_number_first : cfa ".cfa: 16 $rsp +" ≡ of_term (Plain (sum (base.Register 7) 16))
unfolding cfa sym_judge_computes
the_number_first = refl

many_numbers : cfa ".cfa: 3 5 + $rsp + 8 +" ≡ of_term (Plain (sum (base.Register 7) 16))
unfolding cfa sym_judge_computes
many_numbers = refl

a_difference : cfa ".cfa: $rsp 8 -" ≡ of_term (Plain (sum (base.Register 7) (2 ^ 64 - 8)))
unfolding cfa sym_judge_computes
a_difference = refl

a_negative_number : cfas_agree ".cfa: $rsp 8 -" ".cfa: $rsp -8 +" ≡ true
unfolding cfas_agree sym_judge_computes
a_negative_number = refl

past_the_end : cfas_agree ".cfa: $rsp -1 + -1 + 2 +" ".cfa: $rsp" ≡ true
unfolding cfas_agree sym_judge_computes
past_the_end = refl

-- What memory holds at a sum.
a_fetch : rbp "$rbp: .cfa 16 - ^" ≡ of_term (Fetched (sum base.Cfa (2 ^ 64 - 16)))
unfolding rbp sym_judge_computes
a_fetch = refl

a_fetch_by_a_sum : rbps_agree "$rbp: .cfa 16 - ^" "$rbp: -16 .cfa + ^" ≡ true
unfolding rbps_agree sym_judge_computes
a_fetch_by_a_sum = refl

a_fetch_is_no_sum : rbps_agree "$rbp: .cfa 16 - ^" "$rbp: .cfa 16 -" ≡ false
unfolding rbps_agree sym_judge_computes
a_fetch_is_no_sum = refl

a_number_alone : rbp "$rbp: 3 5 -" ≡ of_term (Plain (sum base.Nothing (2 ^ 64 - 2)))
unfolding rbp sym_judge_computes
a_number_alone = refl

-- Words that are their own form: `.cfa` in its own rule, a number minus a register, two registers,
-- a sum of a fetch, and words that leave more than one term.
its_own_rule : cfas_agree ".cfa: .cfa 0 +" ".cfa: .cfa" ≡ false
unfolding cfas_agree sym_judge_computes
its_own_rule = refl

a_register_taken_from_a_number : rbps_agree "$rbp: 8 $rsp -" "$rbp: $rsp 8 -" ≡ false
unfolding rbps_agree sym_judge_computes
a_register_taken_from_a_number = refl

two_registers : rbps_agree "$rbp: $rax $rbx +" "$rbp: $rbx $rax +" ≡ false
unfolding rbps_agree sym_judge_computes
two_registers = refl

a_fetch_that_goes_on : rbps_agree "$rbp: .cfa ^ 8 +" "$rbp: 8 .cfa ^ +" ≡ false
unfolding rbps_agree sym_judge_computes
a_fetch_that_goes_on = refl

left_over : rbps_agree "$rbp: 1 $rax" "$rbp: $rax" ≡ false
unfolding rbps_agree sym_judge_computes
left_over = refl

other_names : rbps_agree "$rbp: $rip 8 +" "$rbp: 8 $rip +" ≡ false
unfolding rbps_agree sym_judge_computes
other_names = refl

the_same_words : rbps_agree "$rbp: $rip 8 4 * + ^" "$rbp: $rip 8 4 * + ^" ≡ true
unfolding rbps_agree sym_judge_computes
the_same_words = refl

-- A missing rule.
a_register_that_is_kept : rbps_agree "$rbx: 1" "$rbp: $rbp" ≡ true
unfolding rbps_agree sym_judge_computes
a_register_that_is_kept = refl

a_kept_register_without_a_value : rbps_agree "$rbx: 1" "$rbp: .undef" ≡ false
unfolding rbps_agree sym_judge_computes
a_kept_register_without_a_value = refl

no_cfa : cfas_agree "$rbx: 1" ".cfa: .undef" ≡ true
unfolding cfas_agree sym_judge_computes
no_cfa = refl

no_return_address : same_form (rule_form target.Ra (rules "$rbx: 1")) (rule_form target.Ra (rules ".ra: .undef")) ≡ true
unfolding rules sym_judge_computes
no_return_address = refl

rsp_is_the_cfa : same_form (rule_form (target.Reg 7) (rules "$rbx: 1")) (rule_form (target.Reg 7) (rules "$rsp: .cfa")) ≡ true
unfolding rules sym_judge_computes
rsp_is_the_cfa = refl

a_register_that_is_lost : same_form (rule_form (target.Reg 0) (rules "$rbx: 1")) (rule_form (target.Reg 0) (rules "$rax: .undef")) ≡ true
unfolding rules sym_judge_computes
a_register_that_is_lost = refl

-- The last of two rules counts.
the_last_rule : rbps_agree "$rbp: 1 $rbp: 2" "$rbp: 2" ≡ true
unfolding rbps_agree sym_judge_computes
the_last_rule = refl
