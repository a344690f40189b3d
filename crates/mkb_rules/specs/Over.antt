-- The processes that gave up, by their reasons.
use Rattle.std.specs.Prelude.{List}
use Rattle.mkb_model.specs.Plain.{GivenUp as OverFor}
use Rattle.mkb_rules.specs.Parts.{given_up}
use Rattle.mkb_rules.specs.declared.state.GivenUp.{GivenUp}

-- the lists for the six reasons
abbrev pub lists_of : GivenUp → List OverFor
lists_of g = given_up g.nodes g.processes g.size g.depth g.variables g.steps
