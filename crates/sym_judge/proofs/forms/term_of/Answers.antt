use Rattle.std.proofs.Common.{◌≡◌, ◌∙◌, sym, ap, reverse, Some}
use Rattle.sym_judge.specs.Forms.{one_term, with_word}
use Rattle.sym_judge.proofs.StackLemmas.{terms_more, terms_fail, terms_end, term_is, term_pushed}
use Rattle.sym_judge.proofs.forms.term_of.Goals as goal

pub returns-in-None : goal.returns-in-None
returns-in-None c =
    sym (term_is c.args.inside c.args.words.now ∙ ap one_term (c.words.invariant ∙ terms_fail c.args.inside c.args.words.now c.words.word-index c.word-item.result (reverse c.words.stack.items) c.words-test.true c.word-item.is c.in-None.ensures))

pub words-preserved : goal.words-preserved
words-preserved c =
    let next : with_word c.args.inside c.word-item.result (reverse c.words.stack.items) ≡ Some (reverse c.push.new.self.items) =
    c.in-Some.ensures ∙ ap Some (term_pushed c.term_after.new.stack.items c.in-Some.term ∙ ap reverse (sym c.in_ok-push-in-Some.ensures.items)) in
    c.words.invariant ∙ terms_more c.args.inside c.args.words.now c.words.word-index c.word-item.result (reverse c.words.stack.items) (reverse c.push.new.self.items) c.words-test.true c.word-item.is next

pub returns : goal.returns
returns c =
    sym (term_is c.args.inside c.args.words.now ∙ ap one_term (c.words.invariant ∙ terms_end c.args.inside c.args.words.now c.words.word-index (reverse c.words.stack.items) c.words-test.false)
    ∙ ap (λ stack. one_term (Some (reverse stack))) (sym c.as_slice.ensures.value) ∙ sym c.one_term.ensures)
