use Rattle.std.proofs.Common.{rules, ◌≡◌, ◌∙◌, sym, ap, subst, Some, OnOk, List, length, ◌<◌}
use Rattle.module_stacks.specs.SymbolFiles.{seen_in, Learns}
use Rattle.std.proofs.lemmas.List.{length-map}
use Rattle.core_file.specs.declared.modules.Module.{Module}
use Rattle.module_stacks.specs.Symbols.{name_of}
use Rattle.module_stacks.specs.Walking.{Walking, IsPathOf}
use Rattle.module_stacks.proofs.WalkerLemmas.{learns_ok, path_there, name_there}
use Rattle.module_stacks.proofs.walker.StackWalker.ask_at.Goals as goal

pub returns-clause-learns : goal.returns-clause-learns
returns-clause-learns g c =
    let w : Walking = record { core = c.self.inside.core.now; folder = c.self.inside.folder.now; known = c.self.inside.files } in
    subst (λ (v : Walking). OnOk c.ask.result (Learns (IsPathOf v) (g.S.Store.files c.args.store.now) (g.S.Store.asked c.args.store.now) (g.S.Store.asked c.ask.new.store) (g.S.Store.faults c.args.store.now) (g.S.Store.faults c.ask.new.store) (seen_in v.known) (seen_in c.ask.new.self))) c.self.view_is
    (learns_ok c.ask.result (λ name. name ≡ c.as_str.result.now) (IsPathOf w) _ _ _ _ _ _ _
    (path_there w c.in-Some.place c.in-Some-index.name c.as_str.result.now (name_there c.self.inside.folder.now c.self.inside.core.now.modules c.self.inside.names.items c.in-Some.place (Some c.in-Some-index.name) c.self.invariant.1
    (subst (λ n. c.in-Some.place < n) (sym (ap length c.self.invariant.1 ∙ length-map c.self.inside.core.now.modules (name_of c.self.inside.folder.now))) (subst (λ (l : List Module). c.in-Some.place < length l) c.self.invariant.0 c.in-Some.ensures.within)) (search rules)) (c.in-Some-path.is ∙ ap Some (sym c.as_str.ensures))) c.ask.ensures.learns)
