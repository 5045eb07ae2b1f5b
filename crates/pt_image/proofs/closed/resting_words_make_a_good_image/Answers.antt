use Rattle.pt_image.proofs.Laws.{resting_book_is_images, resting_image_is_good}
use Rattle.pt_image.proofs.closed.resting_words_make_a_good_image.Goals as goal

pub returns-clause-good : goal.returns-clause-good
returns-clause-good c = resting_image_is_good

pub returns-clause-book : goal.returns-clause-book
returns-clause-book c = resting_book_is_images
