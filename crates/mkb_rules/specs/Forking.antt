-- The parts of a state after a fork.
use Rattle.std.specs.Prelude.{ℕ, zero, suc, true, false, List, [], ◌∷◌, ◌≡◌, map, unwrap_or}
use Rattle.kb_cert.specs.declared.certificate.Certificate.{Certificate}
use Rattle.kb_label.specs.Names.{Name, child, relabel}
use Rattle.mkb_model.specs.Plain.{Plain, PlainNode, Done, GivenUp as OverFor, Certified}
use Rattle.mkb_model.specs.Effects.{certify_in, forked_certificates, forked_node, oriented}
use Rattle.mkb_rules.specs.Over.{lists_of}
use Rattle.mkb_rules.specs.declared.effects.forking.Forked.{Forked}
use Rattle.mkb_rules.specs.declared.effects.forking.NewNames.{NewNames}
use Rattle.mkb_rules.specs.declared.state.GivenUp.{GivenUp}

-- the pairs of overlapped rules after a fork of p
abbrev pub forked_done : Name → List Done → List Done
forked_done p ds = map (λ (d : Done). record d { names = relabel p d.names }) ds

-- the pairs of overlapped rules, with other names at a place
abbrev pub with_names_at : ℕ → List Name → List Done → List Done
with_names_at i l [] = []
with_names_at zero l (d ∷ ds) = record d { names = l } ∷ ds
with_names_at (suc i) l (d ∷ ds) = d ∷ with_names_at i l ds

-- the pairs of overlapped rules, with all these new names
abbrev pub with_new_names : List NewNames → List Done → List Done
with_new_names [] ds = ds
with_new_names (n ∷ ns) ds = with_new_names ns (with_names_at n.place n.names ds)

-- the orders after a fork of p, when each child has its own
abbrev pub orders_after_fork : Name → Certificate → Certificate → List Certified → List Certified
orders_after_fork p c0 c1 l = certify_in (child p true) c1 (certify_in (child p false) c0 (forked_certificates p l))

-- one child of p turns the equation into the rule of direction 0, the other into that of direction 1
abbrev pub oriented_both_ways : Name → ℕ → List PlainNode → List PlainNode
oriented_both_ways p n xs = oriented (child p true) (record { node = n; dir = 1 }) (oriented (child p false) (record { node = n; dir = 0 }) xs)

-- those that gave up, after a fork of p
abbrev pub forked_over : Name → List OverFor → List OverFor
forked_over p gs = map (λ (g : OverFor). record g { names = relabel p g.names }) gs

-- the lists of those that gave up, after a fork of p
abbrev pub relabelled_lists : Name → GivenUp → GivenUp
relabelled_lists p g = record {
  nodes = relabel p g.nodes;
  processes = relabel p g.processes;
  size = relabel p g.size;
  depth = relabel p g.depth;
  variables = relabel p g.variables;
  steps = relabel p g.steps;
}

-- the node at a number after a fork of p
abbrev pub fork_at : Name → ℕ → List PlainNode → List PlainNode
fork_at p n [] = []
fork_at p zero (x ∷ xs) = forked_node p x ∷ xs
fork_at p (suc n) (x ∷ xs) = x ∷ fork_at p n xs

-- the parts are those of the board after a fork of p
pub record IsForkOf (b : Plain) (p : Name) (f : Forked) : Type 0 where
  pub done : with_new_names f.done.items b.done ≡ forked_done p b.done
  pub closed : f.closed ≡ relabel p b.closed
  pub over : lists_of f.over ≡ forked_over p b.over
  pub asleep : unwrap_or f.asleep b.asleep ≡ relabel p b.asleep

-- the board with these parts
abbrev pub with_parts : Forked → Plain → Plain
with_parts f b = record b {
  done = with_new_names f.done.items b.done;
  closed = f.closed;
  over = lists_of f.over;
  asleep = unwrap_or f.asleep b.asleep;
}
