-- What a worker has after one more draw.
use Rattle.std.proofs.Common.{◌≡◌, ℕ, ◌-◌, ◌<◌, List, [], ◌∷◌, ◌++◌, Option, Some, Result, Ok, IfSome, IfOk, arith, refl, sym, ap, ◌∙◌}
use Rattle.std.specs.Prelude.{option_to_list}
use Rattle.std.specs.List.{All}
use Rattle.std.proofs.lemmas.List.Elements.{All-push, All-pop}
use Rattle.sym_edges.specs.declared.fault.OutOfMemory.{OutOfMemory}
use Rattle.unit_workers.specs.declared.worker.Worked.{Worked}
use Rattle.unit_workers.specs.Held.{Roll, Held, held}
use Rattle.unit_workers.specs.Working.{numbers, IsResult, IsWorked, AreWorked}
use Rattle.unit_workers.proofs.NumberLemmas.{ceiling, ceiling_push, ceiling_le}

pub numbers_push : {A : Type 0} (found : List (ℕ × A)) (k : ℕ) (out : A) → numbers (found ++ (k, out) ∷ []) ≡ numbers found ++ k ∷ []
numbers_push [] k out = refl
numbers_push (r ∷ rs) k out = ap (λ ks. r.0 ∷ ks) (numbers_push rs k out)

-- How many numbers a hand may still draw: at most those above all that it drew.
abbrev pub ahead : Held → ℕ
ahead hand = hand.roll.count - ceiling hand.drawn

pub fewer_ahead : (roll : Roll) (old new : Held) (k : ℕ) → old.roll ≡ roll → k < roll.count → All (λ x. x < k) old.drawn → new ≡ held roll (old.drawn ++ k ∷ []) old.rights old.share → ahead new < ahead old
fewer_ahead roll old new k of below above is =
    rw is (omega (arith, ceiling_push old.drawn k, ceiling_le k old.drawn above, ap (λ (r : Roll). r.count) of))

module _ {A : Type 0} (gives : ℕ → A → Type 0) (roll : Roll) where
  pub works_more : (old new : Held) (found : List (ℕ × A)) (k : ℕ) (out : A) → IsWorked gives roll 1 old found → k < roll.count → new ≡ held roll (old.drawn ++ k ∷ []) old.rights old.share → gives k out
      → IsWorked gives roll 1 new (found ++ (k, out) ∷ [])
  works_more old new found k out w below is out_is = record {
    holds = is ∙ ap (λ (h : Held). held roll (h.drawn ++ k ∷ []) h.rights h.share) w.holds ∙ ap (λ ks. held roll ks 1 1) (sym (numbers_push found k out));
    each = All-push (IsResult gives roll.count) found (k, out) w.each (below, out_is);
  }

  pub works_done : (old new : Held) (found : List (ℕ × A)) → IsWorked gives roll 1 old found → new ≡ held roll old.drawn (old.rights - 1) old.share → IsWorked gives roll 0 new found
  works_done old new found w is = record {
    holds = is ∙ ap (λ (h : Held). held roll h.drawn (h.rights - 1) h.share) w.holds;
    each = w.each;
  }

  -- The last of some workers is done, and so are the others.
  pub popped : (works left : List (Result (Worked A) OutOfMemory)) (last : Option (Result (Worked A) OutOfMemory)) (worked : Worked A) → AreWorked gives roll works → works ≡ left ++ option_to_list last → last ≡ Some (Ok worked)
      → IsWorked gives roll 0 worked.hand worked.found.items × AreWorked gives roll left
  popped works left last worked each is here =
      let parts = All-pop (λ (work : Result (Worked A) OutOfMemory). IfOk work (λ w. IsWorked gives roll 0 w.hand w.found.items)) works left last is each in
      let one : IfSome (Some (Ok worked)) (λ (work : Result (Worked A) OutOfMemory). IfOk work (λ w. IsWorked gives roll 0 w.hand w.found.items)) = rw here at parts.1 in
      (one, parts.0)
