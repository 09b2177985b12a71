use Rattle.rust_names.proofs.LeafLemmas.{text_ok, text_bad}
use Rattle.rust_names.proofs.leaves.characters_of.Goals as goal

pub returns-in-Ok : goal.returns-in-Ok
returns-in-Ok c = text_ok _ c.in-Some.bytes.items c.as_slice.result.now c.in-Ok.string.now c.in_ok-cs-in-Ok.cs.items (rw c.in-Some.is at c.in_ok-bytes.ensures) c.as_slice.ensures.value c.in-Ok.ensures.cases.0 c.in-Ok.ensures.cases.1 c.in_ok-cs-in-Ok.ensures

pub returns : goal.returns
returns c = text_bad _ c.in-Some.bytes.items c.as_slice.result.now (rw c.in-Some.is at c.in_ok-bytes.ensures) c.as_slice.ensures.value c.in-Err.ensures.cases.0
