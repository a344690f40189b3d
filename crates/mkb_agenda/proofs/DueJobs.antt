-- The jobs that are due for a process: what is due, of rules of directions 0 and 1.
use Rattle.std.proofs.Common.{ℕ, ◌≡◌, ◌<◌, refl, subst, true, List, [], ◌∷◌, ◌++◌, map, flat_map, length, Contains, not, ◌&&◌, ◌||◌, arith, ⊎_elim}
use Rattle.std.proofs.lemmas.Bool.{or_cases}
use Rattle.std.proofs.lemmas.List.Elements.{Contains-append_cases, Contains-append_left, Contains-append_right}
use Rattle.kb_lemmas.proofs.Booleans.{and_gives_left, and_gives_right}
use Rattle.kb_lemmas.proofs.Membership.{contains_cases, contains_first, contains_map, contains_mapped, contains_flat_map, contains_flat_map_back, none_in, only_member}
use Rattle.kb_label.specs.Names.{Name, has}
use Rattle.kb_term.specs.declared.origin.RuleRef.{RuleRef}
use Rattle.kb_node.specs.declared.node.LabelKind.TheVariants.{R0, R1, E, X}
use Rattle.kb_node.specs.declared.job.Job.{Job}
use Rattle.kb_node.specs.declared.job.Job.TheVariants.{Reduce, Orient, Overlap, Close}
use Rattle.mkb_model.specs.Jobs.{process_of, ref_le}
use Rattle.mkb_model.specs.Plain.{Plain, label, rule_kind, node_numbers, is_equation, is_rule, rules_of, done_of, job_nodes}
use Rattle.mkb_model.specs.DueJobs.{is_node_of, is_reducible, is_working, is_work_due, is_due, work_of}
use Rattle.mkb_model.proofs.Lists.{clash, filter_in, in_filter, in_numbers}
use Rattle.mkb_model.proofs.commits.Roles.{on_there}
use Rattle.mkb_model.proofs.closing.LeftAlone.{IsBit, in_rules, rules_in}
use Rattle.mkb_moves.proofs.OpenedWork.{bit_below}
use Rattle.mkb_agenda.specs.Agendas.{IsDueJob}

-- the rules of an overlap are of directions 0 or 1
abbrev pub IsProper : Job → Type 0
IsProper (Reduce p n) = Unit {0}
IsProper (Orient p n) = Unit {0}
IsProper (Overlap p a e) = (a.dir < 2) × (e.dir < 2)
IsProper (Close p) = Unit {0}

pub bit_least : (d : ℕ) → IsBit d → d < 2
bit_least d h = ⊎_elim (λ e. omega (arith, e)) (λ e. omega (arith, e)) h

module _ (b : Plain) (p : Name) where
  abbrev reduces : List Job
  reduces = map (λ n. Reduce p (record { 0 = n })) (node_numbers b)

  abbrev orients : List Job
  orients = map (λ n. Orient p (record { 0 = n })) (node_numbers b)

  abbrev overlaps : List Job
  overlaps = flat_map (λ (a : RuleRef). map (Overlap p a) (rules_of b p)) (rules_of b p)

  -- a node of the process is there
  pub node_there : (n : ℕ) → is_node_of b p n ≡ true → n < length b.nodes
  node_there n h = ⊎_elim (on_there b.nodes p n E) (λ o. ⊎_elim (on_there b.nodes p n R0) (on_there b.nodes p n R1) (or_cases (is_rule b p (record { node = n; dir = 0 })) (is_rule b p (record { node = n; dir = 1 })) o))
      (or_cases (is_equation b p n) (is_rule b p (record { node = n; dir = 0 }) || is_rule b p (record { node = n; dir = 1 })) h)

  pub number_in : (n : ℕ) → n < length b.nodes → Contains (node_numbers b) n
  number_in n l = in_numbers 0 (length b.nodes) n (omega arith) (omega (arith, l))

  -- work of a process is for it, and of rules in their directions
  pub work_has : (j : Job) → Contains (work_of b p) j → (process_of j ≡ p) × IsProper j
  work_has j c = ⊎_elim reduced (λ d. ⊎_elim oriented overlapped (Contains-append_cases orients overlaps j d)) (Contains-append_cases reduces (orients ++ overlaps) j c)
    where
      reduced : Contains reduces j → (process_of j ≡ p) × IsProper j
      reduced d = let m = contains_mapped (λ n. Reduce p (record { 0 = n })) (node_numbers b) j d in subst {A = Job} (λ z. (process_of z ≡ p) × IsProper z) m.2 (refl, tt)

      oriented : Contains orients j → (process_of j ≡ p) × IsProper j
      oriented d = let m = contains_mapped (λ n. Orient p (record { 0 = n })) (node_numbers b) j d in subst {A = Job} (λ z. (process_of z ≡ p) × IsProper z) m.2 (refl, tt)

      overlapped : Contains overlaps j → (process_of j ≡ p) × IsProper j
      overlapped d =
          let q = contains_flat_map_back (λ (a : RuleRef). map (Overlap p a) (rules_of b p)) (rules_of b p) j d in
          let m = contains_mapped (Overlap p q.0) (rules_of b p) j q.2 in
          subst {A = Job} (λ z. (process_of z ≡ p) × IsProper z) m.2 (refl, (bit_least q.0.dir (rules_in b p q.0 q.1).0, bit_least m.0.dir (rules_in b p m.0 m.1).0))

-- due work is among the work of its process
pub in_work : (b : Plain) (j : Job) → is_work_due b j ≡ true → IsProper j → Contains (work_of b (process_of j)) j
in_work b (Reduce p n) h k = Contains-append_left (reduces b p) (orients b p ++ overlaps b p) (Reduce p n)
    (contains_map (λ n. Reduce p (record { 0 = n })) (node_numbers b) n.0 (number_in b p n.0 (node_there b p n.0 (and_gives_left (is_node_of b p n.0) (is_reducible b p n.0) h))))
in_work b (Orient p n) h k = Contains-append_right (reduces b p) (orients b p ++ overlaps b p) (Orient p n) (Contains-append_left (orients b p) (overlaps b p) (Orient p n)
    (contains_map (λ n. Orient p (record { 0 = n })) (node_numbers b) n.0 (number_in b p n.0 (on_there b.nodes p n.0 E (and_gives_left (is_equation b p n.0) (not (has (label b n.0 X) p)) h)))))
in_work b (Overlap p a e) h k =
    let r = and_gives_left (is_rule b p a && is_rule b p e) (ref_le a e && not (has (done_of b a e) p)) h in
    Contains-append_right (reduces b p) (orients b p ++ overlaps b p) (Overlap p a e) (Contains-append_right (orients b p) (overlaps b p) (Overlap p a e)
    (contains_flat_map (λ (a : RuleRef). map (Overlap p a) (rules_of b p)) (rules_of b p) a (Overlap p a e) (in_rules b p a (bit_below a.dir k.0) (and_gives_left (is_rule b p a) (is_rule b p e) r))
    (contains_map (Overlap p a) (rules_of b p) e (in_rules b p e (bit_below e.dir k.1) (and_gives_right (is_rule b p a) (is_rule b p e) r)))))
in_work b (Close p) h k = clash h refl

pub due_is : (b : Plain) (j : Job) → IsDueJob b j → (is_due b j ≡ true) × IsProper j
due_is b j h = (r.1, ⊎_elim (λ i. (work_has b (process_of j) j i).1) (λ i. subst {A = Job} IsProper (only_member (Close (process_of j)) j i) tt) (Contains-append_cases (work_of b (process_of j)) (Close (process_of j) ∷ []) j r.0))
  where
    r : Contains (work_of b (process_of j) ++ Close (process_of j) ∷ []) j × (is_due b j ≡ true)
    r = filter_in (is_due b) (work_of b (process_of j) ++ Close (process_of j) ∷ []) j h

among : (b : Plain) (j : Job) → is_due b j ≡ true → IsProper j → Contains (work_of b (process_of j) ++ Close (process_of j) ∷ []) j
among b (Reduce p n) h k = Contains-append_left (work_of b p) (Close p ∷ []) (Reduce p n) (in_work b (Reduce p n) (and_gives_right (is_working b p) (is_work_due b (Reduce p n)) h) k)
among b (Orient p n) h k = Contains-append_left (work_of b p) (Close p ∷ []) (Orient p n) (in_work b (Orient p n) (and_gives_right (is_working b p) (is_work_due b (Orient p n)) h) k)
among b (Overlap p a e) h k = Contains-append_left (work_of b p) (Close p ∷ []) (Overlap p a e) (in_work b (Overlap p a e) (and_gives_right (is_working b p) (is_work_due b (Overlap p a e)) h) k)
among b (Close p) h k = Contains-append_right (work_of b p) (Close p ∷ []) (Close p) (contains_first (Close p) [])

pub is_listed_due : (b : Plain) (j : Job) → is_due b j ≡ true → IsProper j → IsDueJob b j
is_listed_due b j h k = in_filter (is_due b) (work_of b (process_of j) ++ Close (process_of j) ∷ []) j (among b j h k) h

-- the nodes that a due job names are there
pub nodes_there : (b : Plain) (j : Job) → is_due b j ≡ true → (m : ℕ) → Contains (job_nodes j) m → m < length b.nodes
nodes_there b (Reduce p n) h m i = subst {A = ℕ} (λ z. z < length b.nodes) (only_member n.0 m i) (node_there b p n.0 (and_gives_left (is_node_of b p n.0) (is_reducible b p n.0) (and_gives_right (is_working b p) (is_work_due b (Reduce p n)) h)))
nodes_there b (Orient p n) h m i = subst {A = ℕ} (λ z. z < length b.nodes) (only_member n.0 m i) (on_there b.nodes p n.0 E (and_gives_left (is_equation b p n.0) (not (has (label b n.0 X) p)) (and_gives_right (is_working b p) (is_work_due b (Orient p n)) h)))
nodes_there b (Overlap p a e) h m i =
    let r = and_gives_left (is_rule b p a && is_rule b p e) (ref_le a e && not (has (done_of b a e) p)) (and_gives_right (is_working b p) (is_work_due b (Overlap p a e)) h) in
    ⊎_elim (λ q. subst {A = ℕ} (λ z. z < length b.nodes) q (on_there b.nodes p a.node (rule_kind a.dir) (and_gives_left (is_rule b p a) (is_rule b p e) r)))
    (λ k. subst {A = ℕ} (λ z. z < length b.nodes) (only_member e.node m k) (on_there b.nodes p e.node (rule_kind e.dir) (and_gives_right (is_rule b p a) (is_rule b p e) r))) (contains_cases a.node (e.node ∷ []) m i)
nodes_there b (Close p) h m i = none_in i
