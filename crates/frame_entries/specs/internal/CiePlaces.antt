-- The places of CIEs.
use Rattle.std.specs.Prelude.{ℕ, List, map}
use Rattle.frame_entries.specs.declared.cie.Cie.{Cie}

-- where CIEs start
abbrev pub places_of : List Cie → List ℕ
places_of cies = map (λ cie. cie.at) cies
