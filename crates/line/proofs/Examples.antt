-- The examples, computed.
use mathlib.Core.Path.{refl}
use Rattle.ground.specs.Lists.{nth, put}
use Rattle.line.specs.Turns.{calls, call_of, up, first_caller, turn_of, perform, run}
use Rattle.line.specs.Examples.{all_serve, ExamplesHold}

pub examples_hold : ExamplesHold
unfolding nth put calls call_of up first_caller turn_of perform run all_serve
examples_hold = refl
