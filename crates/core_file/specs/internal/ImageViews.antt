-- A loaded file as the definitions have it, from the fields that the code stores.
use Rattle.core_file.specs.LoadedImages.{LoadedImage}
use Rattle.core_file.specs.declared.images.Image.{Image}

abbrev pub image_view : Image → LoadedImage
image_view image = record { first = image.first; headers = image.headers.items }
