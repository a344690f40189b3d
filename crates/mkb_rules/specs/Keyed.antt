-- How the list of two overlapped rules is looked up.
use Rattle.std.specs.Prelude.{Bool, List, ◌&&◌, ◌==◌, map}
use Rattle.kb_term.specs.declared.origin.RuleRef.{RuleRef}
use Rattle.mkb_model.specs.Jobs.{ref_eq}
use Rattle.mkb_model.specs.Plain.{Done}
use Rattle.mkb_rules.specs.declared.overlapped.DonePair.{DonePair}
use Rattle.mkb_rules.specs.declared.overlapped.OverlapKey.{OverlapKey}

-- the key of two rules
abbrev pub key_of : RuleRef → RuleRef → OverlapKey
key_of a b = record { first = record { node = a.node; dir = a.dir }; second = record { node = b.node; dir = b.dir } }

-- whether both keys are the same
abbrev pub key_eq : OverlapKey → OverlapKey → Bool
key_eq k l = ((k.first.node == l.first.node) && (k.first.dir == l.first.dir)) && ((k.second.node == l.second.node) && (k.second.dir == l.second.dir))

-- the keys of the pairs
abbrev pub keys_of_pairs : List DonePair → List OverlapKey
keys_of_pairs ds = map (λ (d : DonePair). key_of d.first d.second) ds

-- whether the list is kept for the two rules
abbrev pub is_kept_for : RuleRef → RuleRef → Done → Bool
is_kept_for a b d = ref_eq d.first a && ref_eq d.second b
