-- If each R of an augmentation gives an encoding that is read, then so does the last R.
use Rattle.std.specs.Prelude.{◌≡◌, true}
use Rattle.frame_entries.specs.declared.augmentation.Encodings.{Encodings}
use Rattle.frame_entries.specs.Pointers.{is_encoding}

abbrev pub LastIsRead : Encodings → Type 0
LastIsRead encodings = encodings.known ≡ true → is_encoding encodings.pointer ≡ true
