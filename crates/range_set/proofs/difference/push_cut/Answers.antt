use Rattle.std.proofs.Common.{◌≡◌, ℕ, ◌<◌, max, nat_le, nat_lt, false, ◌||◌, ◌&&◌, ◌∷◌, arith}
use Rattle.range_set.specs.Members.{holds_any}
use Rattle.range_set.proofs.MemberLemmas.{first_below, none_held}
use Rattle.range_set.proofs.CutLemmas.{Cuts, cuts_drop, cuts_over, cuts_end}
use Rattle.range_set.proofs.difference.push_cut.Goals as goal
use Rattle.range_set.proofs.difference.push_cut.Goals.{in-Some+then-end-start, in_default}

pub returns-then-end-clause-members : goal.returns-then-end-clause-members
returns-then-end-clause-members c =
    let m : Cuts c.args.built.now c.args.span c.args.cuts.now c.cuts.built c.cuts.from (c.in-Some.cut.now ∷ c.in-Some.after.now)
    = rw c.in-Some.ensures.cases.0 at c.cuts.invariant in
    let members : (a : ℕ) → holds_any c.push_between.new.built a ≡ (holds_any c.cuts.built a || (nat_le c.cuts.from a && nat_lt a c.in-Some.cut.now.start))
    = rw c.start-in-Some.ensures.start at c.in_ok-push_between.ensures.members in
    cuts_over _ _ _ _ _ _ _ _ m (omega arith) (omega arith) members

pub cuts-preserved : goal.cuts-preserved
cuts-preserved c =
    let m : Cuts c.args.built.now c.args.span c.args.cuts.now c.cuts.built c.cuts.from (c.in-Some.cut.now ∷ c.in-Some.after.now)
    = rw c.in-Some.ensures.cases.0 at c.cuts.invariant in
    let members : (a : ℕ) → holds_any c.push_between.new.built a ≡ (holds_any c.cuts.built a || (nat_le c.cuts.from a && nat_lt a c.in-Some.cut.now.start))
    = rw c.start-in-Some.ensures.start at c.in_ok-push_between.ensures.members in
    let next : c.max-from.result ≡ max c.cuts.from c.in-Some.cut.now.end = omega arith in
    rw next (cuts_drop _ _ _ _ _ _ _ _ m (omega arith) (omega arith) members c.in_ok-push_between.ensures.last)

pub returns-clause-members : goal.returns-clause-members
returns-clause-members c =
    let members : (a : ℕ) → holds_any c.push_between-2.new.built a ≡ (holds_any c.cuts.built a || (nat_le c.cuts.from a && nat_lt a c.args.span.end))
    = rw c.end-2.ensures.end at c.in_ok-push_between-2.ensures.members in
    let clear : (a : ℕ) → a < c.args.span.end → holds_any c.cuts.rest.now a ≡ false = elim c.match-split_first.branch [
      | in-Some+then-end-start w ↦ (λ a low.
          let m : Cuts c.args.built.now c.args.span c.args.cuts.now c.cuts.built c.cuts.from (w.in-Some.cut.now ∷ w.in-Some.after.now)
          = rw w.in-Some.ensures.cases.0 at c.cuts.invariant in
          rw w.in-Some.ensures.cases.0 (first_below w.in-Some.cut.now w.in-Some.after.now a m.canonical (omega arith)))
      | in_default w ↦ (λ a low. none_held c.cuts.rest.now a w.in_default.ensures.cases)
    ] in
    cuts_end _ _ _ _ _ _ _ c.cuts.invariant clear members
