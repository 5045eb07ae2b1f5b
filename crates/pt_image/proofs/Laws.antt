-- The law of images of words at rest, as lemmas for other crates.
use Rattle.pt_image.specs.Books.{RestingBookIsImages, RestingImageIsGood}
use Rattle.pt_image.proofs.RestingBook.{is_book}
use Rattle.pt_image.proofs.RestingStrays.{good_image}

pub resting_image_is_good : RestingImageIsGood
resting_image_is_good f good differ n l image words v blocks r has = good_image f good differ n l image words v blocks r has

pub resting_book_is_images : RestingBookIsImages
resting_book_is_images f good differ agree n l image words has v blocks r = is_book f good differ n l image words v blocks r has agree
