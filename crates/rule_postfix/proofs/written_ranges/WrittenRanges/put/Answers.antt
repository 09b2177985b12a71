use Rattle.std.proofs.Common.{◌≡◌, ◌∙◌, ◌++◌, ◌∷◌, false, List, [], ap, sym, subst, arith}
use Rattle.sym_edges.specs.Addresses.{Range}
use Rattle.range_union.specs.Ranges.{any_overlap, range_to}
use Rattle.rule_postfix.specs.internal.Taken.{AreAlike, AreFound}
use Rattle.rule_postfix.proofs.OverlapLemmas.{taken_push, found_push, grows_by, union_push}
use Rattle.rule_postfix.proofs.written_ranges.WrittenRanges.put.Goals as goal
use Rattle.rule_postfix.proofs.written_ranges.WrittenRanges.put.Goals.{in-Some+in_ok-add, in_default+then-start-self+in_ok-union_with+in-Some-1, in_default+then-start-self+in_ok-union_with+in-None-1, in_default+else-start-self}

pub invariant_of-self-2 : goal.invariant_of-self-2
invariant_of-self-2 c =
    let r : Range = range_to c.args.start c.args.end in
    let old : List Range = c.self.inside.spans.items in
    let apart : any_overlap r old ≡ false = ap (any_overlap r) c.self.view_is ∙ c.requires.apart in
    elim c.match-self.branch [
      | in-Some+in_ok-add w ↦
          taken_push old _ c.self.inside.united _ c.self.inside.top _ _ r c.self.invariant apart
          (c.push_reserved.ensures.items ∙ ap (λ s. s.spans.items ++ c.new.result ∷ []) w.self-inside-is ∙ ap (λ rs. rs ++ c.new.result ∷ []) c.reserve.ensures.items ∙ ap (λ (x : Range). old ++ x ∷ []) c.new.ensures)
          (ap (λ s. s.top) w.self-inside-is) c.max-self-inside.ensures
          (subst (AreFound (old ++ r ∷ [])) (sym (ap (λ s. s.united) w.self-inside-is))
          (union_push old w.in-Some.united w.add.new.self r (subst (AreFound old) w.in-Some.is c.self.invariant.found)
          (grows_by w.in-Some.united w.add.new.self (range_to w.from.result w.from-in-Some.result) r (ap (λ s. range_to s w.from-in-Some.result) w.from.ensures ∙ ap (range_to c.args.start) w.from-in-Some.ensures) w.in_ok-add.ensures.more)))
      | in_default+then-start-self+in_ok-union_with+in-Some-1 w ↦
          taken_push old _ c.self.inside.united _ c.self.inside.top _ _ r c.self.invariant apart
          (c.push_reserved.ensures.items ∙ ap (λ s. s.spans.items ++ c.new.result ∷ []) w.self-inside-is ∙ ap (λ rs. rs ++ c.new.result ∷ []) c.reserve.ensures.items ∙ ap (λ (x : Range). old ++ x ∷ []) c.new.ensures)
          (ap (λ s. s.top) w.self-inside-is) c.max-self-inside.ensures
          (subst (AreFound (old ++ r ∷ [])) (sym (ap (λ s. s.united) w.self-inside-is))
          (subst (λ (rs : List Range). AreAlike (rs ++ r ∷ []) w.in_ok-union_with.field-0) (w.as_slice.ensures.value ∙ c.reserve.ensures.items) w.in_ok-union_with.ensures))
      | in_default+then-start-self+in_ok-union_with+in-None-1 w ↦
          taken_push old _ c.self.inside.united _ c.self.inside.top _ _ r c.self.invariant apart
          (c.push_reserved.ensures.items ∙ ap (λ s. s.spans.items ++ c.new.result ∷ []) w.self-inside-is ∙ ap (λ rs. rs ++ c.new.result ∷ []) c.reserve.ensures.items ∙ ap (λ (x : Range). old ++ x ∷ []) c.new.ensures)
          (ap (λ s. s.top) w.self-inside-is) c.max-self-inside.ensures
          (subst (AreFound (old ++ r ∷ [])) (sym (ap (λ s. s.united) w.self-inside-is))
          (subst (λ (rs : List Range). AreAlike (rs ++ r ∷ []) w.in_ok-union_with.field-0) (w.as_slice.ensures.value ∙ c.reserve.ensures.items) w.in_ok-union_with.ensures))
      | in_default+else-start-self w ↦
          taken_push old _ c.self.inside.united _ c.self.inside.top _ _ r c.self.invariant apart
          (c.push_reserved.ensures.items ∙ ap (λ s. s.spans.items ++ c.new.result ∷ []) w.self-inside-is ∙ ap (λ rs. rs ++ c.new.result ∷ []) c.reserve.ensures.items ∙ ap (λ (x : Range). old ++ x ∷ []) c.new.ensures)
          (ap (λ s. s.top) w.self-inside-is) c.max-self-inside.ensures
          (subst (AreFound (old ++ r ∷ [])) (sym (ap (λ s. s.united) w.self-inside-is))
          (found_push old c.self.inside.united c.self.inside.top r w.in_default.is c.self.invariant (omega (arith, w.if-start-self.false)) c.requires.some))
    ]
