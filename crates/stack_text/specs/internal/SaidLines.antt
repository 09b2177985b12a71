-- Lines, each of which is written once.
use Rattle.std.specs.Prelude.{◌≡◌, ℕ, List}
use Rattle.std.specs.BTreeSet.{BTreeSet, contains}
use Rattle.std.specs.Cmp.Lexicographic.{slice_cmp}
use Rattle.std.specs.Global.{Vec}
use Rattle.std.specs.List.{flat_map, list_any}
use Rattle.std.specs.Ordering.{nat_cmp}
use Rattle.std.specs.Str.{bytes_eq}
use Rattle.stack_text.specs.Once.{once}
use Rattle.stack_text.specs.declared.said_lines.SaidLines.{SaidLines}

-- the set has exactly these texts
abbrev pub HasTexts : BTreeSet (Vec ℕ) → List (List ℕ) → Type 0
HasTexts set texts = (key : Vec ℕ) → contains (λ x y. slice_cmp nat_cmp x.items y.items) set key ≡ list_any (bytes_eq key.items) texts

-- the text has each of these lines once
pub record HasSaid (said : SaidLines) (lines : List (List ℕ)) : Type 0 where
  pub text : said.text.items ≡ flat_map (λ line. line) (once lines)
  pub set : HasTexts said.set lines
