-- Terms within the limits have values.
use Rattle.std.proofs.Common.{◌≡◌, get_or, Bool}
use Rattle.std.specs.Prelude.{Option, IsNone, is_some, not, true, false}
use Rattle.std.specs.Bool.{OnTrue}
use Rattle.std.proofs.lemmas.List.Elements.{Contains-get_or}
use Rattle.kb_term.specs.Tree.{Tree, HasVariablesBelow, variables_of}
use Rattle.kb_term.specs.Pair.{IsWithin}
use Rattle.kb_linear.specs.Limits.{IsMeasurable}

pub measurable : (t : Tree) → HasVariablesBelow 64 t → IsWithin t → IsMeasurable t
measurable t below within = record {
  variables = (λ k d h. below (get_or (variables_of t) k d) (Contains-get_or (variables_of t) k d h));
  size = within.size;
  depth = within.depth;
}

pub on_none : {X : Type 0} (x : Option X) (b : Bool) (P : Type 0) → is_some x ≡ not b → (IsNone x → P) → OnTrue b P
on_none x true P e f = f e
on_none x false P e f = tt
