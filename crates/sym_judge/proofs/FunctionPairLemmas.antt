-- Lemmas about what is known of functions that meet.
use Rattle.std.proofs.Common.{◌≡◌, List, ap, subst, ◌∙◌}
use Rattle.sym_records.specs.declared.line.SymLine.{SymLine}
use Rattle.sym_judge.specs.internal.Chains.{AreFuncChains}
use Rattle.sym_judge.specs.internal.Blocks.{TwoFiles}
use Rattle.sym_judge.specs.declared.chains.FuncChains.{FuncChains}
use Rattle.sym_judge.specs.declared.chain_numbers.Entry.{Entry}

-- The chains of a file's functions.
pub named_funcs : (files : TwoFiles) (first second own lines : List SymLine) (entries : List Entry) (funcs : List FuncChains) → files ≡ record { own = first; other = second } → first ≡ own → second ≡ lines → AreFuncChains files.own files.other entries funcs → AreFuncChains own lines entries funcs
named_funcs files first second own lines entries funcs is one two are =
    subst (λ ls. AreFuncChains own ls entries funcs) (ap (λ (f : TwoFiles). f.other) is ∙ two) (subst (λ ls. AreFuncChains ls files.other entries funcs) (ap (λ (f : TwoFiles). f.own) is ∙ one) are)
