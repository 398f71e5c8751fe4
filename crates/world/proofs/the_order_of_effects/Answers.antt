use Rattle.std.proofs.Common.{◌≡◌, List, [], ◌∷◌, ◌++◌, refl}
use Rattle.world.specs.World.{World}
use Rattle.world.specs.Effects.{Effect, after, after_one}
use Rattle.world.proofs.the_order_of_effects.Goals as goal

in_order : (world : World) (effects more : List Effect) → after world (effects ++ more) ≡ after (after world effects) more
in_order world [] more = refl
in_order world (effect ∷ effects) more = in_order (after_one world effect) effects more

pub returns : goal.returns
returns c = in_order
