use Rattle.std.proofs.Common.{◌∙◌, ap, arith}
use Rattle.debug_pair.proofs.IdentityLemmas.{text_digits}
use Rattle.debug_pair.proofs.identity.hex_text.Goals as goal

pub returns-clause-digits : goal.returns-clause-digits
returns-clause-digits c =
    text_digits c.args.bytes.now c.into_bytes.result.items (ap (λ v. v.items) c.into_bytes.ensures.value ∙ c.in_ok-encode_upper.ensures) (λ i. omega (arith, c.type_inv.bytes i))
