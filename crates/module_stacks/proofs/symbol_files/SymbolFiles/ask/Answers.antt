use Rattle.std.proofs.Common.{◌≡◌, ◌∙◌, None, sym, ap, subst}
use Rattle.module_stacks.specs.SymbolFiles.{seen_in, Learns}
use Rattle.module_stacks.specs.internal.FileTable.{names_of}
use Rattle.module_stacks.proofs.FileLemmas.{none_by, ask_there, ask_learns}
use Rattle.module_stacks.proofs.symbol_files.SymbolFiles.ask.Goals as goal

pub returns-clause-there : goal.returns-clause-there
returns-clause-there g c =
    let none : seen_in c.args.self.now c.args.name.now ≡ None = none_by c.found.result _ (sym c.is_some.ensures ∙ c.if-is_some.false) c.found.ensures in
    ask_there c.self.inside.files c.insert.new.self c.in_ok-owned.owned c.args.name.now c.in_ok-found.found (c.in_ok-owned.ensures.items ∙ c.as_bytes.ensures.value) (ap (λ s. seen_in s c.args.name.now) c.self.view_is ∙ none) c.in_ok-insert.ensures.entries

pub returns-clause-learns : goal.returns-clause-learns
returns-clause-learns g c =
    let none : seen_in c.args.self.now c.args.name.now ≡ None = none_by c.found.result _ (sym c.is_some.ensures ∙ c.if-is_some.false) c.found.ensures in
    subst (λ s. Learns (λ asked_for. asked_for ≡ c.args.name.now) (g.S.Store.files c.args.store.now) (g.S.Store.asked c.args.store.now) (g.S.Store.asked c.find_file.new.store) (g.S.Store.faults c.args.store.now) (g.S.Store.faults c.find_file.new.store) (seen_in s) (seen_in (names_of c.insert.new.self))) c.self.view_is
    (ask_learns _ _ _ _ _ c.self.inside.files c.insert.new.self c.in_ok-owned.owned c.args.name.now c.in_ok-found.found (c.in_ok-owned.ensures.items ∙ c.as_bytes.ensures.value) (ap (λ s. seen_in s c.args.name.now) c.self.view_is ∙ none) c.in_ok-insert.ensures.entries
    c.in_ok-found.ensures.asked c.in_ok-found.ensures.faults c.in_ok-found.ensures.found)
