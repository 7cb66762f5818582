use Rattle.setup.proofs.opening_books.Goals as goal

pub returns : goal.returns
returns g c = cc
