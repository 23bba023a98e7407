use Rattle.mintcx_picture.proofs.PlaceLaws.{nearest}
use Rattle.mintcx_picture.proofs.laws.places_are_nearest.Goals as goal

pub returns : goal.returns
returns c = nearest
