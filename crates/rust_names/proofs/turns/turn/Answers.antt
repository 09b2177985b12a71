use Rattle.std.proofs.Common.{[], ◌∷◌, ◌++◌, sym, subst}
use Rattle.rust_names.specs.internal.Passing.{Turned}
use Rattle.rust_names.specs.internal.Running.{at}
use Rattle.rust_names.proofs.EndLemmas.{beyond}
use Rattle.rust_names.proofs.RunLemmas.{made_turn, plain_turn, turn_from}
use Rattle.rust_names.proofs.PathLemmas.{crate_turn}
use Rattle.rust_names.proofs.turns.turn.Goals as goal

pub returns-then-not-is_made-clause-turned : goal.returns-then-not-is_made-clause-turned
returns-then-not-is_made-clause-turned c =
    let reads = c.in_ok-next.ensures in
    subst (λ fs. Turned c.args.name.now (c.args.room.now.stack.items ++ c.args.top ∷ []) (at c.args.begin.now c.args.room.now.text.items c.args.room.now.opened) fs c.read_plain.new.room.text.items c.read_plain.new.room.opened c.in_ok-next.next) (sym reads.stack)
    (plain_turn c.args.name.now c.args.top c.args.room.now.stack.items (at c.args.begin.now c.args.room.now.text.items c.args.room.now.opened) c.read_plain.new.room.text.items c.read_plain.new.room.opened c.in_ok-next.next reads.read reads.ends)

pub returns-in-Some-clause-turned : goal.returns-in-Some-clause-turned
returns-in-Some-clause-turned c =
    let into = c.in_ok-rest.ensures in
    let front = c.in-Some.ensures in
    turn_from c.args.name.now (c.args.room.now.stack.items ++ c.args.top ∷ []) (c.enter.new.stack.items ++ c.enter.new.frame ∷ []) c.enter.new.stack.items c.args.begin.now c.in_ok-rest.rest.now c.args.room.now.text.items c.read_crate.new.text.items c.args.room.now.opened c.args.room.now.opened c.in_ok-next-2.next into.same into.lighter
    (crate_turn c.args.name.now c.enter.new.frame c.enter.new.stack.items c.in_ok-rest.rest.now c.in-Some.after.now c.args.room.now.text.items c.read_crate.new.text.items c.args.room.now.opened c.in_ok-next-2.next front.0 front.1 (beyond c.args.name.now c.args.begin.now c.in_ok-rest.rest.now c.requires.ends into.ends) front.2 c.in_ok-next-2.ensures)

pub returns-clause-turned : goal.returns-clause-turned
returns-clause-turned c =
    let into = c.in_ok-rest.ensures in
    turn_from c.args.name.now (c.args.room.now.stack.items ++ c.args.top ∷ []) (c.enter.new.stack.items ++ c.enter.new.frame ∷ []) c.expand.new.stack.items c.args.begin.now c.in_ok-rest.rest.now c.args.room.now.text.items c.args.room.now.text.items c.args.room.now.opened c.args.room.now.opened c.in_ok-next-3.next into.same into.lighter
    (made_turn c.args.name.now c.enter.new.frame c.enter.new.stack.items c.expand.new.stack.items c.in_ok-rest.rest.now c.args.room.now.text.items c.args.room.now.opened c.in_ok-next-3.next into.made (beyond c.args.name.now c.args.begin.now c.in_ok-rest.rest.now c.requires.ends into.ends) c.in_ok-next-3.ensures)
