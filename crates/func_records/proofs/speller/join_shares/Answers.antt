use Rattle.std.proofs.Common.{arith}
use Rattle.std.proofs.lemmas.List.{nil_from_length}
use Rattle.sym_records.specs.Spelled.{text_bytes}
use Rattle.func_records.proofs.ShareLemmas.{pop_next, pop_all}
use Rattle.func_records.proofs.speller.join_shares.Goals as goal

pub shares-preserved : goal.shares-preserved
shares-preserved c = pop_next text_bytes c.shares.left.items c.pop.new.self.items _ (text_bytes c.shares.text) _ _ c.in-Some.ensures.items c.in_ok-append.ensures c.shares.invariant

pub returns : goal.returns
returns c = pop_all text_bytes c.shares.left.items (text_bytes c.shares.text) _ (nil_from_length _ (omega (arith, c.in_default.ensures.cases, c.shares.left.ok.0))) c.shares.invariant
