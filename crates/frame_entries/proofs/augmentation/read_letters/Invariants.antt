use Rattle.std.proofs.Common.{◌≡◌, true, drop}
use Rattle.frame_entries.specs.Listing.{from_start}
use Rattle.frame_entries.specs.Cies.{letters_at}
use Rattle.frame_entries.specs.internal.KnownEncodings.{LastIsRead}
use Rattle.frame_entries.proofs.augmentation.read_letters.Given as goal

abbrev pub invariant-letters : goal.invariant-letters
invariant-letters l =
    (letters_at (drop l.letter-index l.letters) l.encodings l.cursor ≡ letters_at l.letters (record { pointer = 0; known = true }) (from_start l.augmentation))
    × LastIsRead l.encodings
