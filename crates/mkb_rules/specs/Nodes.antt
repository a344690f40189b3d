-- Nodes whose last changes can be taken back.
use Rattle.std.specs.Prelude.{List, [], ◌∷◌}
use Rattle.kb_label.specs.Names.{Name, united}
use Rattle.mkb_model.specs.Plain.{PlainNode, label_at}
use Rattle.mkb_model.specs.Effects.{with_label}
use Rattle.mkb_rules.specs.declared.nodes.Former.{Former}
use Rattle.mkb_rules.specs.declared.nodes.Former.TheVariants.{Label, Forked}
use Rattle.mkb_rules.specs.declared.nodes.Replaced.{Replaced}

-- the nodes as they are, and as they were when changes were last kept
pub record Changed : Type 0 where
  pub now : List PlainNode
  pub before : List PlainNode

-- a label as it was before its last change
abbrev pub former_label : Former → List Name → List Name
former_label (Label l) m = l
former_label (Forked p) m = united p m

-- the nodes with one label as it was before its last change
abbrev pub put_one_back : Replaced → List PlainNode → List PlainNode
put_one_back r xs = with_label r.node.0 r.kind (former_label r.former (label_at xs r.node.0 r.kind)) xs

-- the nodes with replaced labels put back, the last that was replaced first
abbrev pub put_back : List Replaced → List PlainNode → List PlainNode
put_back [] xs = xs
put_back (r ∷ rs) xs = put_one_back r (put_back rs xs)
