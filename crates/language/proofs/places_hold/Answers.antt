use Rattle.language.proofs.places_hold.Goals as goal
use Rattle.language.proofs.PlaceFacts.{there_again}

pub returns : goal.returns
returns c = there_again
