-- In a possible run the certificate of each living process is the first of the run's family that orders its constraints, and its rules follow from them.
use Rattle.mkb_model.specs.Sleeping.{settle}
use Rattle.std.proofs.Common.{ℕ, zero, suc, ◌≤◌, ◌<◌, ◌≡◌, ◌≢◌, ◌⊎◌, inl, inr, refl, sym, ap, ◌∙◌, subst, arith, List, [], ◌∷◌, ◌++◌, map, length, Contains, Bool, true, false, cond, Option, Some, None, ⊎_elim}
use Rattle.std.specs.Prelude.{⊤, IsFalse, option_map, take}
use Rattle.std.specs.List.{find}
use Rattle.std.specs.Option.{option_map_or}
use Rattle.std.proofs.lemmas.List.Elements.{Contains-append_left, Contains-append_right, Contains-append_cases}
use Rattle.kb_lemmas.proofs.Membership.{contains_first, contains_behind, contains_cases, none_in}
use Rattle.kb_lemmas.proofs.Options.{some_is, none_some}
use Rattle.kb_term.specs.First.{IsFirst}
use Rattle.kb_term.specs.Tree.{Tree}
use Rattle.kb_term.specs.Pair.{Pair}
use Rattle.kb_term.specs.Rule.{Rule, rule_of}
use Rattle.kb_term.specs.Signature.{Problem, IsWithinLimits}
use Rattle.kb_term.specs.Proving as Proving
use Rattle.kb_term.specs.declared.origin.RuleRef.{RuleRef}
use Rattle.kb_term.proofs.Bridge.{step_to_position, reaches_to}
use Rattle.kb_cert.specs.Family.{Orders, family}
use Rattle.kb_cert.specs.declared.certificate.Certificate.{Certificate}
use Rattle.kb_cert.proofs.FamilyLaws.{some_member}
use Rattle.kb_cert.proofs.Ordering.{nothing_ordered, orders_among}
use Rattle.kb_label.specs.Names.{Name, root, has, name_eq, child}
use Rattle.kb_label.specs.declared.verdict.Reason.{Reason}
use Rattle.kb_label.proofs.Members.{name_eq-eq, name_eq-refl}
use Rattle.kb_node.specs.declared.node.NodeId.{NodeId}
use Rattle.kb_node.specs.declared.node.LabelKind.TheVariants.{E, C0, C1}
use Rattle.kb_node.specs.declared.job.Job.{Job}
use Rattle.kb_node.specs.declared.job.Job.TheVariants.{Reduce, Orient, Overlap, Close}
use Rattle.mkb_model.specs.Plain.{Plain, orders_of, PlainNode, Certified, constraint_kind, constraints_of, is_equation, pair_in, rule_at, rules_at, certificate_of, state_of}
use Rattle.mkb_model.specs.Effects.{applied, effect, limit_of, give_up, effect_label, is_dropped, certify_in, forked_certificates, counted}
use Rattle.mkb_model.specs.Proposals.{Proposes, OrientsBy}
use Rattle.mkb_model.specs.Invariants.{IsCertified, RulesFollow}
use Rattle.mkb_model.specs.Journals.{Moment, Follows, IsPossibleRun, IsFreeJob, IsFinishing, opening}
use Rattle.mkb_model.specs.Ready.{IsOn, KeepsPairs}
use Rattle.mkb_model.specs.declared.proposed.Proposed.{Proposed}
use Rattle.mkb_model.specs.declared.proposed.Proposed.TheVariants.{Facts, Rewrite, One, Both, Refuse, Deduce, Unjoined, Closed, Limit}
use Rattle.mkb_model.specs.declared.entry.Entry.{Entry}
use Rattle.mkb_model.specs.declared.entry.Entry.TheVariants.{Take, Commit, Drop, Abandon, Halt}
use Rattle.mkb_model.proofs.Lists.{clash, decide, filter_map_in, in_filter_map}
use Rattle.mkb_model.proofs.commits.Roles.{kind_number, on_there}
use Rattle.mkb_model.proofs.commits.Views.{rule_listed}
use Rattle.mkb_model.proofs.commits.Orienting.{OrientRoles, orient-roles}
use Rattle.mkb_model.proofs.commits.Commits.{IsApartFrom, pairs-applied, orients, children_differ, bit_number, fork_roles}
use Rattle.mkb_model.proofs.runs.Simulation.{forked_names, apart_from}
use Rattle.mkb_model.proofs.labels.LivingNames.{run_orders}
use Rattle.mkb_model.proofs.tickets.InFlight.{unlike}
use Rattle.mkb_model.proofs.runs.KnownFacts.{rule_stays}
use Rattle.mkb_model.proofs.closing.RestInRuns.{Stands, stands_run}
use Rattle.mkb_model.proofs.closing.Staying.{KeepsConstraints, constraints_applied}
use Rattle.mkb_model.proofs.runs.AllFine.{FirstWith, first_same, orient_first, constraints_in, in_constraints, rule_back, states_ordered, commits_fine, children_new, inputs_only}
use Rattle.mkb_model.specs.declared.settings.Settings.{Settings}

-- ---- lists of certificates

-- what the list has for the process
abbrev certificate_in : List Certified → Name → Option Certificate
certificate_in ds p = option_map (λ (c : Certified). c.certificate) (find (λ (c : Certified). name_eq c.name p) ds)

certified_same : (p : Name) (c x : Certificate) (ds : List Certified) → certificate_in ds p ≡ Some x → certificate_in (certify_in p c ds) p ≡ Some c
certified_same p c x [] h = none_some h
certified_same p c x (d ∷ ds) h = go (name_eq d.name p) refl (certified_same p c x ds) h
  where
    go : (b : Bool) → name_eq d.name p ≡ b → (certificate_in ds p ≡ Some x → certificate_in (certify_in p c ds) p ≡ Some c)
        → option_map (λ (c : Certified). c.certificate) (cond b (Some d) (find (λ (c : Certified). name_eq c.name p) ds)) ≡ Some x → certificate_in (cond b (record d { certificate = c } ∷ ds) (d ∷ certify_in p c ds)) p ≡ Some c
    go true e ih k = ap (λ b. option_map (λ (c : Certified). c.certificate) (cond b (Some (record d { certificate = c })) (find (λ (c : Certified). name_eq c.name p) ds))) e
    go false e ih k = ap (λ b. option_map (λ (c : Certified). c.certificate) (cond b (Some d) (find (λ (c : Certified). name_eq c.name p) (certify_in p c ds)))) e ∙ ih k

certified_other : (p q : Name) (c : Certificate) → p ≢ q → (ds : List Certified) → certificate_in (certify_in p c ds) q ≡ certificate_in ds q
certified_other p q c d [] = refl
certified_other p q c d (x ∷ ds) = go (name_eq x.name p) refl (certified_other p q c d ds)
  where
    go : (b : Bool) → name_eq x.name p ≡ b → certificate_in (certify_in p c ds) q ≡ certificate_in ds q → certificate_in (cond b (record x { certificate = c } ∷ ds) (x ∷ certify_in p c ds)) q ≡ certificate_in (x ∷ ds) q
    go true e ih =
        let away : name_eq x.name q ≡ false = unlike x.name q (λ f. d (sym (name_eq-eq x.name p e) ∙ f)) in
        ap (λ b. option_map (λ (c : Certified). c.certificate) (cond b (Some (record x { certificate = c })) (find (λ (c : Certified). name_eq c.name q) ds))) away ∙ sym (ap (λ b. option_map (λ (c : Certified). c.certificate) (cond b (Some x) (find (λ (c : Certified). name_eq c.name q) ds))) away)
    go false e ih = inner (name_eq x.name q) ih
      where
        inner : (b : Bool) → certificate_in (certify_in p c ds) q ≡ certificate_in ds q → option_map (λ (c : Certified). c.certificate) (cond b (Some x) (find (λ (c : Certified). name_eq c.name q) (certify_in p c ds))) ≡ option_map (λ (c : Certified). c.certificate) (cond b (Some x) (find (λ (c : Certified). name_eq c.name q) ds))
        inner true ih = refl
        inner false ih = ih

-- both children have one after a fork of a process that has one
certified_child : (p : Name) (x : Certificate) (bit : Bool) (ds : List Certified) → certificate_in ds p ≡ Some x → (y : Certificate) × (certificate_in (forked_certificates p ds) (child p bit) ≡ Some y)
certified_child p x bit [] h = none_some h
certified_child p x bit (d ∷ ds) h = go (name_eq d.name p) (certified_child p x bit ds) h
  where
    at : (bit : Bool) → certificate_in (record d { name = child p false } ∷ record d { name = child p true } ∷ ds) (child p bit) ≡ Some d.certificate
    at false = ap (λ b. option_map (λ (c : Certified). c.certificate) (cond b (Some (record d { name = child p false })) (find (λ (c : Certified). name_eq c.name (child p false)) (record d { name = child p true } ∷ ds)))) (name_eq-refl (child p false))
    at true = ap (λ b. option_map (λ (c : Certified). c.certificate) (cond b (Some (record d { name = child p false })) (find (λ (c : Certified). name_eq c.name (child p true)) (record d { name = child p true } ∷ ds)))) (children_differ p).0
        ∙ ap (λ b. option_map (λ (c : Certified). c.certificate) (cond b (Some (record d { name = child p true })) (find (λ (c : Certified). name_eq c.name (child p true)) ds))) (name_eq-refl (child p true))

    go : (b : Bool) → (certificate_in ds p ≡ Some x → (y : Certificate) × (certificate_in (forked_certificates p ds) (child p bit) ≡ Some y)) → option_map (λ (c : Certified). c.certificate) (cond b (Some d) (find (λ (c : Certified). name_eq c.name p) ds)) ≡ Some x
        → (y : Certificate) × (certificate_in (cond b (record d { name = child p false } ∷ record d { name = child p true } ∷ ds) (d ∷ forked_certificates p ds)) (child p bit) ≡ Some y)
    go true ih k = (d.certificate, at bit)
    go false ih k = inner (name_eq d.name (child p bit)) (ih k)
      where
        inner : (b : Bool) → (y : Certificate) × (certificate_in (forked_certificates p ds) (child p bit) ≡ Some y) → (y : Certificate) × (option_map (λ (c : Certified). c.certificate) (cond b (Some d) (find (λ (c : Certified). name_eq c.name (child p bit)) (forked_certificates p ds))) ≡ Some y)
        inner true r = (d.certificate, refl)
        inner false r = r

certified_apart : (p q : Name) → IsApartFrom p q → (ds : List Certified) → certificate_in (forked_certificates p ds) q ≡ certificate_in ds q
certified_apart p q h [] = refl
certified_apart p q h (d ∷ ds) = go (name_eq d.name p) refl (certified_apart p q h ds)
  where
    turned : (x y : Name) → name_eq y x ≡ false → name_eq x y ≡ false
    turned x y e = unlike x y (λ f. clash (subst {A = Name} (λ z. name_eq y z ≡ true) (sym f) (name_eq-refl y)) e)

    go : (b : Bool) → name_eq d.name p ≡ b → certificate_in (forked_certificates p ds) q ≡ certificate_in ds q → certificate_in (cond b (record d { name = child p false } ∷ record d { name = child p true } ∷ ds) (d ∷ forked_certificates p ds)) q ≡ certificate_in (d ∷ ds) q
    go true e ih =
        ap (λ b. option_map (λ (c : Certified). c.certificate) (cond b (Some (record d { name = child p false })) (find (λ (c : Certified). name_eq c.name q) (record d { name = child p true } ∷ ds)))) (turned (child p false) q h.not_first)
        ∙ ap (λ b. option_map (λ (c : Certified). c.certificate) (cond b (Some (record d { name = child p true })) (find (λ (c : Certified). name_eq c.name q) ds))) (turned (child p true) q h.not_second)
        ∙ sym (ap (λ b. option_map (λ (c : Certified). c.certificate) (cond b (Some d) (find (λ (c : Certified). name_eq c.name q) ds))) (subst {A = Name} (λ z. name_eq z q ≡ false) (sym (name_eq-eq d.name p e)) (turned p q h.not_itself)))
    go false e ih = inner (name_eq d.name q) ih
      where
        inner : (b : Bool) → certificate_in (forked_certificates p ds) q ≡ certificate_in ds q → option_map (λ (c : Certified). c.certificate) (cond b (Some d) (find (λ (c : Certified). name_eq c.name q) (forked_certificates p ds))) ≡ option_map (λ (c : Certified). c.certificate) (cond b (Some d) (find (λ (c : Certified). name_eq c.name q) ds))
        inner true ih = refl
        inner false ih = ih

-- ---- constraints

-- an order of rules orders the constraints that are among them
orders_constraints : (c : Certificate) (rules : List Rule) (b : Plain) (p : Name) → Orders c rules → ((a : RuleRef) (r : Rule) → IsOn b.nodes p a.node (constraint_kind a.dir) → Contains (constraints_of b p) a → rule_at b a ≡ Some r → Contains rules r) → Orders c (rules_at b (constraints_of b p))
orders_constraints c rules b p h sub = orders_among c rules (rules_at b (constraints_of b p)) (λ r i. let f = filter_map_in (rule_at b) (constraints_of b p) r i in sub f.0 r (constraints_in b p f.0 f.1).0 f.1 f.2) h

-- where the constraints stay, so do their rules
kept_back : (b d : Plain) (p : Name) → KeepsPairs b.nodes d.nodes → KeepsConstraints b.nodes d.nodes p → (r : Rule) → Contains (rules_at d (constraints_of d p)) r → Contains (rules_at b (constraints_of b p)) r
kept_back b d p keeps same r i =
    let f = filter_map_in (rule_at d) (constraints_of d p) r i in
    let o = constraints_in d p f.0 f.1 in
    let u = (same f.0.node f.0.dir).0 o.0 in
    in_filter_map (rule_at b) (constraints_of b p) f.0 r (in_constraints b p f.0 u o.1) (rule_back b d f.0 r keeps (on_there b.nodes p f.0.node (constraint_kind f.0.dir) u) f.2)

kept_forth : (b d : Plain) (p : Name) → KeepsPairs b.nodes d.nodes → KeepsConstraints b.nodes d.nodes p → (r : Rule) → Contains (rules_at b (constraints_of b p)) r → Contains (rules_at d (constraints_of d p)) r
kept_forth b d p keeps same r i =
    let f = filter_map_in (rule_at b) (constraints_of b p) r i in
    let o = constraints_in b p f.0 f.1 in
    in_filter_map (rule_at d) (constraints_of d p) f.0 r (in_constraints d p f.0 ((same f.0.node f.0.dir).1 o.0) o.1) (rule_stays b d f.0 r keeps f.2)

same_direction : (d e : ℕ) (q : Pair) → constraint_kind d ≡ constraint_kind e → rule_of q d ≡ rule_of q e
same_direction zero zero q h = refl
same_direction zero (suc e) q h = absurd (omega (arith, ap kind_number h))
same_direction (suc d) zero q h = absurd (omega (arith, ap kind_number h))
same_direction (suc d) (suc e) q h = refl

-- a constraint of this direction is among those of the process
constraint_there : (d : Plain) (q : Name) (n e : ℕ) (r : Rule) → IsOn d.nodes q n (constraint_kind e) → rule_at d (record { node = n; dir = e }) ≡ Some r → Contains (rules_at d (constraints_of d q)) r
constraint_there d q n zero r on h =
    let a : RuleRef = record { node = n; dir = 0 } in
    in_filter_map (rule_at d) (constraints_of d q) a r (in_constraints d q a on (contains_first a (record { node = n; dir = 1 } ∷ []))) h
constraint_there d q n (suc e) r on h =
    let a : RuleRef = record { node = n; dir = 1 } in
    in_filter_map (rule_at d) (constraints_of d q) a r (in_constraints d q a on (contains_behind (record { node = n; dir = 0 }) (a ∷ []) a (contains_first a []))) h

-- who orients has the rules of the old constraints and the new rule, and no others
module _ (b d : Plain) (p q : Name) (n e : ℕ) (keeps : KeepsPairs b.nodes d.nodes) (roles : OrientRoles b.nodes p d.nodes q (record { node = n; dir = e })) (there : n < length b.nodes) where
  abbrev new : RuleRef
  new = record { node = n; dir = e }

  oriented_back : (r : Rule) → Contains (rules_at d (constraints_of d q)) r → Contains (rules_at b (constraints_of b p ++ new ∷ [])) r
  oriented_back r i =
      let f = filter_map_in (rule_at d) (constraints_of d q) r i in
      let o = constraints_in d q f.0 f.1 in
      ⊎_elim
      (λ u. in_filter_map (rule_at b) (constraints_of b p ++ new ∷ []) f.0 r (Contains-append_left (constraints_of b p) (new ∷ []) f.0 (in_constraints b p f.0 u.0 o.1)) (rule_back b d f.0 r keeps (on_there b.nodes p f.0.node (constraint_kind f.0.dir) u.0) f.2))
      (λ u. in_filter_map (rule_at b) (constraints_of b p ++ new ∷ []) new r (Contains-append_right (constraints_of b p) (new ∷ []) new (contains_first new [])) (rule_back b d new r keeps there (turned f.0 r u.0 u.1 f.2)))
      ((roles.constraints f.0.node f.0.dir).0 o.0)
    where
      turned : (a : RuleRef) (r : Rule) → a.node ≡ n → constraint_kind a.dir ≡ constraint_kind e → rule_at d a ≡ Some r → rule_at d new ≡ Some r
      turned a r m k h = go (pair_in d.nodes a.node) refl h
        where
          go : (o : Option Pair) → pair_in d.nodes a.node ≡ o → option_map (λ q. rule_of q a.dir) o ≡ Some r → rule_at d new ≡ Some r
          go None f h = none_some h
          go (Some z) f h = ap (option_map (λ q. rule_of q e)) (ap (pair_in d.nodes) (sym m) ∙ f) ∙ ap Some (sym (same_direction a.dir e z k)) ∙ h

  oriented_forth : (r : Rule) → Contains (rules_at b (constraints_of b p ++ new ∷ [])) r → Contains (rules_at d (constraints_of d q)) r
  oriented_forth r i =
      let f = filter_map_in (rule_at b) (constraints_of b p ++ new ∷ []) r i in
      ⊎_elim
      (λ k. let o = constraints_in b p f.0 k in
      in_filter_map (rule_at d) (constraints_of d q) f.0 r (in_constraints d q f.0 ((roles.constraints f.0.node f.0.dir).1 (inl (o.0, λ z. z.2))) o.1) (rule_stays b d f.0 r keeps f.2))
      (λ k. ⊎_elim (λ h. constraint_there d q n e r ((roles.constraints n e).1 (inr (refl, refl, tt))) (rule_stays b d new r keeps (subst {A = RuleRef} (λ z. rule_at b z ≡ Some r) (sym h) f.2))) (λ j. none_in j) (contains_cases new [] f.0 k))
      (Contains-append_cases (constraints_of b p) (new ∷ []) f.0 f.1)

  first_oriented : (cs : List Certificate) (c : Certificate) → FirstWith cs b p n e c → IsFirst (λ x. Orders x (rules_at d (constraints_of d q))) cs (Some c)
  first_oriented cs c h = first_same cs (rules_at b (constraints_of b p ++ new ∷ [])) (rules_at d (constraints_of d q)) c oriented_forth oriented_back h

-- ---- commits

-- each living process is certified
abbrev pub AreCertified : Plain → Type 0
AreCertified b = (p : Name) → has b.living p ≡ true → IsCertified b p

kept_certified : (b d : Plain) (p : Name) → orders_of d ≡ orders_of b → certificate_of d p ≡ certificate_of b p → KeepsPairs b.nodes d.nodes → KeepsConstraints b.nodes d.nodes p → IsCertified b p → IsCertified d p
kept_certified b d p e same keeps constraints h = record {
  certificate = h.certificate;
  there = same ∙ h.there;
  first = subst {A = List Certificate} (λ z. IsFirst (λ x. Orders x (rules_at d (constraints_of d p))) z (Some h.certificate)) (sym e)
      (first_same (orders_of b) (rules_at b (constraints_of b p)) (rules_at d (constraints_of d p)) h.certificate (kept_forth b d p keeps constraints) (kept_back b d p keeps constraints) h.first);
}

-- an orienting proposal's certificates are the first that order the constraints with its rule
abbrev FirstNew : List Certificate → Plain → Proposed → Type 0
FirstNew cs b (One p n d c) = FirstWith cs b p n.0 d c
FirstNew cs b (Both p n c0 c1) = FirstWith cs b p n.0 0 c0 × FirstWith cs b p n.0 1 c1
FirstNew cs b x = ⊤

certified_applied : (cs : List Certificate) (b : Plain) (x : Proposed) → orders_of b ≡ cs → IsFalse (is_dropped b x) → Stands b → FirstNew cs b x → AreCertified b → AreCertified (applied b x)
certified_applied cs b (One p n d c) e acts s new h q lives = go (decide (name_eq q p))
  where
    on : is_equation b p n.0 ≡ true
    on = orients b p n.0 acts

    go : (name_eq q p ≡ true) ⊎ (name_eq q p ≡ false) → IsCertified (applied b (One p n d c)) q
    go (inl i) = subst {A = Name} (IsCertified (applied b (One p n d c))) (sym (name_eq-eq q p i)) (record {
      certificate = c;
      there = let k = h p ((s.labelled.nodes n.0 E).lives p on) in certified_same p c k.certificate b.certificates k.there;
      first = first_oriented b (applied b (One p n d c)) p p n.0 d (pairs-applied b (One p n d c)) (orient-roles p (record { node = n.0; dir = d }) b.nodes (on_there b.nodes p n.0 E on)) (on_there b.nodes p n.0 E on) (orders_of b) c
          (subst {A = List Certificate} (λ z. FirstWith z b p n.0 d c) (sym e) new);
    })
    go (inr i) =
        let away : q ≢ p = λ f. clash (subst {A = Name} (λ z. name_eq q z ≡ true) f (name_eq-refl q)) i in
        kept_certified b (applied b (One p n d c)) q refl (certified_other p q c (λ f. away (sym f)) b.certificates) (pairs-applied b (One p n d c)) (constraints_applied b (One p n d c) q away) (h q lives)
certified_applied cs b (Both p n c0 c1) e acts s new h q lives = go (forked_names p b.living q named lives)
  where
    on : is_equation b p n.0 ≡ true
    on = orients b p n.0 acts

    named : has b.living p ≡ true
    named = (s.labelled.nodes n.0 E).lives p on

    two : child p false ≢ child p true
    two f = clash (subst {A = Name} (λ z. name_eq (child p false) z ≡ true) f (name_eq-refl (child p false))) (children_differ p).0

    there : (bit : Bool) → certificate_of (applied b (Both p n c0 c1)) (child p bit) ≡ Some (cond bit c1 c0)
    there false = certified_other (child p true) (child p false) c1 (λ f. two (sym f)) (certify_in (child p false) c0 (forked_certificates p b.certificates)) ∙ (let r = certified_child p (h p named).certificate false b.certificates (h p named).there in certified_same (child p false) c0 r.0 (forked_certificates p b.certificates) r.1)
    there true =
        let r = certified_child p (h p named).certificate true b.certificates (h p named).there in
        certified_same (child p true) c1 r.0 (certify_in (child p false) c0 (forked_certificates p b.certificates)) (certified_other (child p false) (child p true) c0 two (forked_certificates p b.certificates) ∙ r.1)

    ordered : (bit : Bool) → FirstWith cs b p n.0 (bit_number bit) (cond bit c1 c0)
    ordered false = new.0
    ordered true = new.1

    go : ((bit : Bool) × (q ≡ child p bit)) ⊎ ((has b.living q ≡ true) × (q ≢ p)) → IsCertified (applied b (Both p n c0 c1)) q
    go (inl (bit, i)) = subst {A = Name} (IsCertified (applied b (Both p n c0 c1))) (sym i) (record {
      certificate = cond bit c1 c0;
      there = there bit;
      first = first_oriented b (applied b (Both p n c0 c1)) p (child p bit) n.0 (bit_number bit) (pairs-applied b (Both p n c0 c1)) (fork_roles b.nodes p n.0 (children_new b p s named) on bit) (on_there b.nodes p n.0 E on) (orders_of b) (cond bit c1 c0)
          (subst {A = List Certificate} (λ z. FirstWith z b p n.0 (bit_number bit) (cond bit c1 c0)) (sym e) (ordered bit));
    })
    go (inr (l, d)) =
        let away : IsApartFrom p q = apart_from p b.living named s.apart q l d in
        kept_certified b (applied b (Both p n c0 c1)) q refl
        (certified_other (child p true) q c1 (λ f. clash (subst {A = Name} (λ z. name_eq z (child p true) ≡ true) f (name_eq-refl (child p true))) away.not_second) (certify_in (child p false) c0 (forked_certificates p b.certificates))
        ∙ certified_other (child p false) q c0 (λ f. clash (subst {A = Name} (λ z. name_eq z (child p false) ≡ true) f (name_eq-refl (child p false))) away.not_first) (forked_certificates p b.certificates) ∙ certified_apart p q away b.certificates)
        (pairs-applied b (Both p n c0 c1)) (constraints_applied b (Both p n c0 c1) q away) (h q l)
certified_applied cs b (Facts fs) e acts s new h q lives = kept_certified b (applied b (Facts fs)) q refl refl (pairs-applied b (Facts fs)) (constraints_applied b (Facts fs) q tt) (h q lives)
certified_applied cs b (Rewrite n w at a kind t) e acts s new h q lives = kept_certified b (applied b (Rewrite n w at a kind t)) q refl refl (pairs-applied b (Rewrite n w at a kind t)) (constraints_applied b (Rewrite n w at a kind t) q tt) (h q lives)
certified_applied cs b (Refuse p n) e acts s new h q lives = kept_certified b (applied b (Refuse p n)) q refl refl (pairs-applied b (Refuse p n)) (constraints_applied b (Refuse p n) q tt) (h q lives)
certified_applied cs b (Deduce a c ds) e acts s new h q lives = kept_certified b (applied b (Deduce a c ds)) q refl refl (pairs-applied b (Deduce a c ds)) (constraints_applied b (Deduce a c ds) q tt) (h q lives)
certified_applied cs b (Unjoined p ds) e acts s new h q lives = kept_certified b (applied b (Unjoined p ds)) q refl refl (pairs-applied b (Unjoined p ds)) (constraints_applied b (Unjoined p ds) q tt) (h q lives)
certified_applied cs b (Closed p) e acts s new h q lives = kept_certified b (applied b (Closed p)) q refl refl (pairs-applied b (Closed p)) (constraints_applied b (Closed p) q tt) (h q lives)
certified_applied cs b (Limit j cause) e acts s new h q lives = h q lives

again : (b d : Plain) → orders_of d ≡ orders_of b → d.certificates ≡ b.certificates → d.nodes ≡ b.nodes → d.living ≡ b.living → AreCertified b → AreCertified d
again b d ep ec en el h q lives = kept_certified b d q ep (ap (λ cs. certificate_in cs q) ec) (subst {A = List PlainNode} (KeepsPairs b.nodes) (sym en) (λ n z i. i)) (subst {A = List PlainNode} (λ ys. KeepsConstraints b.nodes ys q) (sym en) (λ k d. ((λ o. o), λ o. o))) (h q (subst {A = List Name} (λ l. has l q ≡ true) el lives))

certified_effect : (cs : List Certificate) (b : Plain) (x : Proposed) → orders_of b ≡ cs → IsFalse (is_dropped b x) → Stands b → FirstNew cs b x → AreCertified b → AreCertified (effect b x)
certified_effect cs b x e acts s new h = go (limit_of b x)
  where
    go : (o : Option Reason) → AreCertified (settle (counted (option_map_or (λ r. give_up r (effect_label b x) b) o (applied b x))))
    go None = again (applied b x) (settle (counted (applied b x))) refl refl refl refl (certified_applied cs b x e acts s new h)
    go (Some r) = again b (settle (counted (give_up r (effect_label b x) b))) refl refl refl refl h

-- the certificates that are proposed order the constraints with the new rule
orders_new : (P : Problem) (n : Settings) (past : List Moment) (b : Plain) (run : IsPossibleRun P n past b) (within : IsWithinLimits P) (w t : ℕ) (j : Job) (x : Proposed) → IsFinishing past b w t j x → IsFalse (is_dropped b x) → FirstNew (family n.family P.signature) b x
orders_new P n past b run within w t j x f acts = go j x refl f.proposed
  where
    orders : (p : Name) (m : NodeId) (d : ℕ) (c : Certificate) → j ≡ Orient p m → OrientsBy f.before p m.0 d (Some c) → FirstWith (family n.family P.signature) b p m.0 d c
    orders p m d c e o = orient_first P n past b run (stands_run P n past b run) (states_ordered P n past b within run (commits_fine P n past b within run)) w t j x f acts p m d c e o

    go : (i : Job) (y : Proposed) → i ≡ j → Proposes f.before i y → FirstNew (family n.family P.signature) b y
    go (Orient p m) (One q k d c) ei h = subst {A = Name} (λ z. FirstWith (family n.family P.signature) b z k.0 d c) (sym h.0) (subst {A = NodeId} (λ z. FirstWith (family n.family P.signature) b p z.0 d c) (sym h.1) (orders p m d c (sym ei) h.3))
    go (Orient p m) (Both q k c0 c1) ei h = (
      subst {A = Name} (λ z. FirstWith (family n.family P.signature) b z k.0 0 c0) (sym h.0) (subst {A = NodeId} (λ z. FirstWith (family n.family P.signature) b p z.0 0 c0) (sym h.1) (orders p m 0 c0 (sym ei) h.2)),
      subst {A = Name} (λ z. FirstWith (family n.family P.signature) b z k.0 1 c1) (sym h.0) (subst {A = NodeId} (λ z. FirstWith (family n.family P.signature) b p z.0 1 c1) (sym h.1) (orders p m 1 c1 (sym ei) h.3)),
    )
    go i (Facts fs) ei h = tt
    go i (Rewrite k v at a kind u) ei h = tt
    go i (Refuse p m) ei h = tt
    go i (Deduce a c ds) ei h = tt
    go i (Unjoined p ds) ei h = tt
    go i (Closed p) ei h = tt
    go i (Limit k cause) ei h = tt
    go (Reduce p m) (One q k d c) ei h = absurd h
    go (Overlap p a e) (One q k d c) ei h = absurd h
    go (Close p) (One q k d c) ei h = absurd h
    go (Reduce p m) (Both q k c0 c1) ei h = absurd h
    go (Overlap p a e) (Both q k c0 c1) ei h = absurd h
    go (Close p) (Both q k c0 c1) ei h = absurd h

-- ---- runs

certified_opening : (P : Problem) (n : Settings) → AreCertified (opening P n)
certified_opening P n p lives = at p lives
  where
    none : (m d : ℕ) → ¬ IsOn (opening P n).nodes root m (constraint_kind d)
    none m zero o = clash (sym (ap (λ l. has l root) (inputs_only 1 P.equations [] m C0 (λ e. omega (arith, ap kind_number e)))) ∙ o) refl
    none m (suc d) o = clash (sym (ap (λ l. has l root) (inputs_only 1 P.equations [] m C1 (λ e. omega (arith, ap kind_number e)))) ∙ o) refl

    all : (c : Certificate) → Orders c (rules_at (opening P n) (constraints_of (opening P n) root))
    all c = orders_constraints c [] (opening P n) root (nothing_ordered c) (λ a r o i e. absurd (none a.node a.dir o))

    first : (xs : List Certificate) (c : Certificate) → Contains xs c → (d : Certificate) × IsFirst (λ x. Orders x (rules_at (opening P n) (constraints_of (opening P n) root))) xs (Some d) × (certificate_in (map (λ c. record { name = root; certificate = c }) (take 1 xs)) root ≡ Some d)
    first [] c i = none_in i
    first (x ∷ xs) c i = (x, (all x, [], xs, refl, λ k d l. absurd (omega (arith, l))), refl)

    at_root : IsCertified (opening P n) root
    at_root =
        let f = first (family n.family P.signature) (some_member n.family P.signature).0 (some_member n.family P.signature).1 in
        record { certificate = f.0; there = f.2; first = f.1 }

    at : (p : Name) → has (root ∷ []) p ≡ true → IsCertified (opening P n) p
    at [] h = at_root
    at (x ∷ p) h = clash h refl

certified_follow : (P : Problem) (n : Settings) (past : List Moment) (b : Plain) (e : Entry) (c : Plain) → IsWithinLimits P → IsPossibleRun P n past b → Follows IsFreeJob past b e c → AreCertified b → AreCertified c
certified_follow P n past b (Take w t j) c within run f h = subst {A = Plain} AreCertified (sym f.leads_to) (again b _ refl refl refl refl h)
certified_follow P n past b (Commit w t e) c within run f h = subst {A = Plain} AreCertified (sym f.leads_to) (again (effect b f.proposal) _ refl refl refl refl
    (certified_effect (family n.family P.signature) b f.proposal (run_orders IsFreeJob P n past b run) f.acts (stands_run P n past b run) (orders_new P n past b run within w t f.job f.proposal f.finishing f.acts) h))
certified_follow P n past b (Drop w t p) c within run f h = subst {A = Plain} AreCertified (sym f.leads_to) (again b _ refl refl refl refl h)
certified_follow P n past b (Abandon w t) c within run f h = subst {A = Plain} AreCertified (sym f.leads_to) (again b _ refl refl refl refl h)
certified_follow P n past b Halt c within run f h = subst {A = Plain} AreCertified (sym f.1) h

-- each living process's certificate is the first of the run's family that orders its constraints
pub certified_run : (P : Problem) (n : Settings) (ms : List Moment) (c : Plain) → IsWithinLimits P → IsPossibleRun P n ms c → AreCertified c
certified_run P n [] c within run = subst {A = Plain} AreCertified (sym run) (certified_opening P n)
certified_run P n (m ∷ ms) c within run = certified_follow P n ms m.board m.entry c within run.0 run.1 (certified_run P n ms m.board within run.0)

-- each rule of a process leads from its left to its right side by its constraints
pub rules_follow : (P : Problem) (n : Settings) (ms : List Moment) (c : Plain) → IsWithinLimits P → IsPossibleRun P n ms c → (p : Name) → RulesFollow c p
rules_follow P n ms c within run p a rule on there = go (pair_in c.nodes a.node) refl there
  where
    go : (o : Option Pair) → pair_in c.nodes a.node ≡ o → option_map (λ q. rule_of q a.dir) o ≡ Some rule → (path : List Tree) × (1 ≤ length path) × Proving.IsChain (rules_at c (constraints_of c p)) path rule.left rule.right
    go None e h = none_some h
    go (Some q) e h =
        let k = (states_ordered P n ms c within run (commits_fine P n ms c within run) p).chained rule (subst {A = Rule} (Contains (state_of c p).rules) (some_is h) (rule_listed c p a q on e)) in
        let r = reaches_to (state_of c p).constraints k.0 rule.right k.2 in
        (k.0 ∷ r.0, omega arith, (step_to_position (Contains (state_of c p).constraints) k.1, r.1))
