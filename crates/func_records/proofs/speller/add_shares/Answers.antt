use Rattle.std.proofs.Common.{get_or, sym, subst, arith}
use Rattle.sym_records.specs.Spelled.{text_bytes}
use Rattle.func_records.specs.internal.Shares.{SpellerParts, AddsShare, AreSplit}
use Rattle.func_records.proofs.ShareLemmas.{shares_added}
use Rattle.func_records.proofs.speller.add_shares.Goals as goal

pub of-speller-requires : goal.of-speller-requires
of-speller-requires g c = record {
  found = c.requires.found;
  numbered = subst (AreSplit c.args.writer.now.numbers c.args.writer.now.units.now c.args.found.shares.now) (sym c.as_slice.ensures.value) c.in_ok-split.ensures;
}

pub returns : goal.returns
returns g c =
    shares_added text_bytes c.args.writer.now.base c.args.writer.now.numbers c.args.writer.now.units.now c.in_ok-texts.texts.items c.args.found.shares.now c.args.found.pieces.now (text_bytes c.args.front) (text_bytes c.in_ok-text.text)
    (omega (arith, c.in_ok-texts.ensures.count, c.in_ok-texts.texts.ok.0))
    c.requires.found.enough
    (λ k d e below. subst (λ (s : SpellerParts). AddsShare s k (text_bytes (get_or c.in_ok-texts.texts.items k d))) c.of-speller.ensures (c.in_ok-texts.ensures.each k d (omega (arith, below, c.in_ok-texts.ensures.count, c.in_ok-texts.texts.ok.0))) e below)
    c.in_ok-text.ensures
