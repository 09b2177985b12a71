use Rattle.rust_names.proofs.IdentifierLemmas.{length_found}
use Rattle.rust_names.proofs.identifiers.any_length.Goals as goal

pub returns-in-Some-number_upto : goal.returns-in-Some-number_upto
returns-in-Some-number_upto c = length_found c.args.bytes.now c.split_at.result.0.now c.split_at.result.1.now c.count_digits.result _ c.in-None.ensures.after c.count_digits.ensures.count c.split_at.ensures.front c.split_at.ensures.back c.in-Some-number_upto.ensures.number

pub returns-in-None-number_upto : goal.returns-in-None-number_upto
returns-in-None-number_upto c = length_found c.args.bytes.now c.split_at.result.0.now c.split_at.result.1.now c.count_digits.result _ c.in-None.ensures.after c.count_digits.ensures.count c.split_at.ensures.front c.split_at.ensures.back c.in-None-number_upto.ensures.number
