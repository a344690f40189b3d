-- The orders of processes, by their places.
use Rattle.std.proofs.Common.{suc, ◌≡◌, ◌<◌, ◌≤◌, Bool, true, false, List, [], ◌∷◌, length, get_or, set, insert, Option, Some, IsSome, option_map, if◌then◌else◌, refl, ap, ap₂, arith}
use Rattle.std.specs.List.{find}
use Rattle.kb_label.specs.Names.{Name, child, name_eq}
use Rattle.kb_cert.specs.declared.certificate.Certificate.{Certificate}
use Rattle.mkb_model.specs.Plain.{Certified as OrderOf}
use Rattle.mkb_model.specs.Effects.{certify_in, forked_certificates}
use Rattle.mkb_rules.specs.Kept.{plain_certificates, place_in}
use Rattle.mkb_rules.specs.declared.state.Certified.{Certified}

-- the order that is kept for the process, if one is
abbrev pub order_in : List OrderOf → Name → Option Certificate
order_in cs p = option_map (λ (c : OrderOf). c.certificate) (find (λ (c : OrderOf). name_eq c.name p) cs)

-- an order that is kept has its place
pub is_placed : (cs : List Certified) (p : Name) → IsSome (order_in (plain_certificates cs) p) → place_in (plain_certificates cs) p < length cs
is_placed [] p h = absurd (cc)
is_placed (c ∷ cs) p h =
    placed_by (name_eq c.name p) h (λ k. is_placed cs p k)
  where
    placed_by : (t : Bool) → IsSome (option_map (λ (d : OrderOf). d.certificate) (if t then (Some (record { name = c.name; certificate = c.certificate })) else (find (λ (d : OrderOf). name_eq d.name p) (plain_certificates cs))))
        → (IsSome (order_in (plain_certificates cs) p) → place_in (plain_certificates cs) p < length cs)
        → (if t then 0 else suc (place_in (plain_certificates cs) p)) < length (c ∷ cs)
    placed_by true k f = omega arith
    placed_by false k f = let l : place_in (plain_certificates cs) p < length cs = f k in omega arith

-- it stands there
pub placed_order : (cs : List Certified) (p : Name) (d : Certified) → place_in (plain_certificates cs) p < length cs → order_in (plain_certificates cs) p ≡ Some (get_or cs (place_in (plain_certificates cs) p) d).certificate
placed_order [] p d h = absurd (omega arith)
placed_order (c ∷ cs) p d h =
    placed_by (name_eq c.name p) h (λ k. placed_order cs p d k)
  where
    placed_by : (t : Bool) → (if t then 0 else suc (place_in (plain_certificates cs) p)) < length (c ∷ cs)
        → (place_in (plain_certificates cs) p < length cs → order_in (plain_certificates cs) p ≡ Some (get_or cs (place_in (plain_certificates cs) p) d).certificate)
        → option_map (λ (e : OrderOf). e.certificate) (if t then (Some (record { name = c.name; certificate = c.certificate })) else (find (λ (e : OrderOf). name_eq e.name p) (plain_certificates cs)))
        ≡ Some (get_or (c ∷ cs) (if t then 0 else suc (place_in (plain_certificates cs) p)) d).certificate
    placed_by true k f = refl
    placed_by false k f = f (omega arith)

-- a new order at the place
pub certified_there : (cs : List Certified) (p : Name) (q : Certificate) (x : Certified) → place_in (plain_certificates cs) p < length cs → x ≡ get_or cs (place_in (plain_certificates cs) p) x
    → plain_certificates (set cs (place_in (plain_certificates cs) p) (record { name = x.name; certificate = q })) ≡ certify_in p q (plain_certificates cs)
certified_there [] p q x h e = absurd (omega arith)
certified_there (c ∷ cs) p q x h e = placed_by (name_eq c.name p) h e (λ k f. certified_there cs p q x k f)
  where
    placed_by : (t : Bool) → (if t then 0 else suc (place_in (plain_certificates cs) p)) < length (c ∷ cs) → x ≡ get_or (c ∷ cs) (if t then 0 else suc (place_in (plain_certificates cs) p)) x
        → (place_in (plain_certificates cs) p < length cs → x ≡ get_or cs (place_in (plain_certificates cs) p) x
        → plain_certificates (set cs (place_in (plain_certificates cs) p) (record { name = x.name; certificate = q })) ≡ certify_in p q (plain_certificates cs))
        → plain_certificates (set (c ∷ cs) (if t then 0 else suc (place_in (plain_certificates cs) p)) (record { name = x.name; certificate = q }))
        ≡ (if t then (record { name = c.name; certificate = q } ∷ plain_certificates cs) else (record { name = c.name; certificate = c.certificate } ∷ certify_in p q (plain_certificates cs)))
    placed_by true k e f = ap (λ (y : Certified). record { name = y.name; certificate = q } ∷ plain_certificates cs) e
    placed_by false k e f = ap (λ (z : List OrderOf). record { name = c.name; certificate = c.certificate } ∷ z) (f (omega arith) e)

-- no order of the process is there
pub certified_nowhere : (cs : List Certified) (p : Name) (q : Certificate) → length cs ≤ place_in (plain_certificates cs) p → plain_certificates cs ≡ certify_in p q (plain_certificates cs)
certified_nowhere [] p q h = refl
certified_nowhere (c ∷ cs) p q h = placed_by (name_eq c.name p) h (λ k. certified_nowhere cs p q k)
  where
    placed_by : (t : Bool) → length (c ∷ cs) ≤ (if t then 0 else suc (place_in (plain_certificates cs) p))
        → (length cs ≤ place_in (plain_certificates cs) p → plain_certificates cs ≡ certify_in p q (plain_certificates cs))
        → plain_certificates (c ∷ cs)
        ≡ (if t then (record { name = c.name; certificate = q } ∷ plain_certificates cs) else (record { name = c.name; certificate = c.certificate } ∷ certify_in p q (plain_certificates cs)))
    placed_by true k f = absurd (omega arith)
    placed_by false k f = ap (λ (z : List OrderOf). record { name = c.name; certificate = c.certificate } ∷ z) (f (omega arith))

-- both children at the place
pub forked_there : (cs : List Certified) (p : Name) (x y : Certified) → place_in (plain_certificates cs) p < length cs → y ≡ get_or cs (place_in (plain_certificates cs) p) y → x ≡ get_or (insert cs (suc (place_in (plain_certificates cs) p)) (record { name = child p true; certificate = y.certificate })) (place_in (plain_certificates cs) p) x
    → plain_certificates (set (insert cs (suc (place_in (plain_certificates cs) p)) (record { name = child p true; certificate = y.certificate })) (place_in (plain_certificates cs) p) (record { name = child p false; certificate = x.certificate })) ≡ forked_certificates p (plain_certificates cs)
forked_there [] p x y h e f = absurd (omega arith)
forked_there (c ∷ cs) p x y h e f = placed_by (name_eq c.name p) h e f (λ k g j. forked_there cs p x y k g j)
  where
    placed_by : (t : Bool) → (if t then 0 else suc (place_in (plain_certificates cs) p)) < length (c ∷ cs) → y ≡ get_or (c ∷ cs) (if t then 0 else suc (place_in (plain_certificates cs) p)) y → x ≡ get_or (insert (c ∷ cs) (suc (if t then 0 else suc (place_in (plain_certificates cs) p))) (record { name = child p true; certificate = y.certificate })) (if t then 0 else suc (place_in (plain_certificates cs) p)) x
        → (place_in (plain_certificates cs) p < length cs → y ≡ get_or cs (place_in (plain_certificates cs) p) y → x ≡ get_or (insert cs (suc (place_in (plain_certificates cs) p)) (record { name = child p true; certificate = y.certificate })) (place_in (plain_certificates cs) p) x
        → plain_certificates (set (insert cs (suc (place_in (plain_certificates cs) p)) (record { name = child p true; certificate = y.certificate })) (place_in (plain_certificates cs) p) (record { name = child p false; certificate = x.certificate })) ≡ forked_certificates p (plain_certificates cs))
        → plain_certificates (set (insert (c ∷ cs) (suc (if t then 0 else suc (place_in (plain_certificates cs) p))) (record { name = child p true; certificate = y.certificate })) (if t then 0 else suc (place_in (plain_certificates cs) p)) (record { name = child p false; certificate = x.certificate }))
        ≡ (if t then (record { name = child p false; certificate = c.certificate } ∷ record { name = child p true; certificate = c.certificate } ∷ plain_certificates cs) else (record { name = c.name; certificate = c.certificate } ∷ forked_certificates p (plain_certificates cs)))
    placed_by true k e f g = ap₂ (λ (z w : Certified). record { name = child p false; certificate = z.certificate } ∷ record { name = child p true; certificate = w.certificate } ∷ plain_certificates cs) f e
    placed_by false k e f g = ap (λ (z : List OrderOf). record { name = c.name; certificate = c.certificate } ∷ z) (g (omega arith) e f)

-- no order of the process is there, so none of its children
pub forked_nowhere : (cs : List Certified) (p : Name) → length cs ≤ place_in (plain_certificates cs) p → plain_certificates cs ≡ forked_certificates p (plain_certificates cs)
forked_nowhere [] p h = refl
forked_nowhere (c ∷ cs) p h = placed_by (name_eq c.name p) h (λ k. forked_nowhere cs p k)
  where
    placed_by : (t : Bool) → length (c ∷ cs) ≤ (if t then 0 else suc (place_in (plain_certificates cs) p))
        → (length cs ≤ place_in (plain_certificates cs) p → plain_certificates cs ≡ forked_certificates p (plain_certificates cs))
        → plain_certificates (c ∷ cs)
        ≡ (if t then (record { name = child p false; certificate = c.certificate } ∷ record { name = child p true; certificate = c.certificate } ∷ plain_certificates cs) else (record { name = c.name; certificate = c.certificate } ∷ forked_certificates p (plain_certificates cs)))
    placed_by true k f = absurd (omega arith)
    placed_by false k f = ap (λ (z : List OrderOf). record { name = c.name; certificate = c.certificate } ∷ z) (f (omega arith))

-- the place of an order is at most their number
pub place_within : (cs : List Certified) (p : Name) → place_in (plain_certificates cs) p ≤ length cs
place_within [] p = omega arith
place_within (c ∷ cs) p = placed_by (name_eq c.name p) (place_within cs p)
  where
    placed_by : (t : Bool) → place_in (plain_certificates cs) p ≤ length cs → (if t then 0 else suc (place_in (plain_certificates cs) p)) ≤ length (c ∷ cs)
    placed_by true h = omega arith
    placed_by false h = omega arith
