use Rattle.pt_closed.proofs.WalkOfBook.{walk_is_book}
use Rattle.pt_closed.proofs.walk_is_book.Goals as goal

pub returns : goal.returns
returns c = walk_is_book
