use Rattle.std.proofs.Common.{sym, subst}
use Rattle.sym_records.specs.Text.{record_of}
use Rattle.sym_records.specs.declared.keyword.Keyword.{Keyword}
use Rattle.sym_grammar.specs.internal.Given.{Gives}
use Rattle.sym_grammar.proofs.records.record_of.Goals as goal

pub returns-in-Inline : goal.returns-in-Inline
returns-in-Inline c = subst (λ (k : Keyword). Gives c.inline_of.result (λ s. s) (record_of k c.args.bytes.now)) (sym c.in-Inline.is) c.inline_of.ensures
