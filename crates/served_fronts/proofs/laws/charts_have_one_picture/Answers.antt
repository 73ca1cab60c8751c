use Rattle.served_fronts.proofs.Pictures.{one_picture}
use Rattle.served_fronts.proofs.laws.charts_have_one_picture.Goals as goal

pub returns : goal.returns
returns c = one_picture
