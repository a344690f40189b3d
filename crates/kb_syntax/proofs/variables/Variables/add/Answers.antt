use Rattle.std.proofs.Common.{ap, sym, ◌∙◌, ◌≡◌, refl, subst, List, [], ◌∷◌, ◌++◌, Bool, true, false, cond, Vec, Global, ℕ}
use Rattle.std.specs.Prelude.{bytes_eq}
use Rattle.std.specs.List.{list_any}
use Rattle.std.proofs.lemmas.List.{map-append}
use Rattle.kb_text.specs.Names.{Name, with_name}
use Rattle.kb_syntax.specs.Variables.{VariableNames, IsKept}
use Rattle.kb_syntax.proofs.PlacedLaws.{kept_more}
use Rattle.kb_syntax.proofs.LookLaws.{among-keys}
use Rattle.kb_syntax.proofs.VariableLaws.{Keys, key_names, viewed, names-more}
use Rattle.kb_syntax.proofs.variables.Variables.add.Goals as goal

inserted : (keys after : Keys) (name : Vec ℕ Global) → after ≡ cond (list_any (λ (k : Vec ℕ Global). bytes_eq name.items k.items) keys) keys (keys ++ name ∷ []) → key_names after ≡ with_name (key_names keys) name.items
inserted keys after name e = ap key_names e ∙ go (list_any (λ (k : Vec ℕ Global). bytes_eq name.items k.items) keys) ∙ ap (λ (b : Bool). cond b (key_names keys) (key_names keys ++ name.items ∷ [])) (among-keys keys name.items)
  where
    go : (b : Bool) → key_names (cond b keys (keys ++ name ∷ [])) ≡ cond b (key_names keys) (key_names keys ++ name.items ∷ [])
    go true = refl
    go false = map-append (λ (n : Vec ℕ Global). n.items) keys (name ∷ [])

pub invariant_of-self-2 : goal.invariant_of-self-2
invariant_of-self-2 c =
    let keys = c.self.inside.names.keys in
    let is = c.self.inside.found.items in
    let places = c.self.inside.places.items in
    subst (λ (ps : List ℕ). IsKept (key_names c.insert.new.self.keys) is ps) (sym c.in_ok-push.ensures.items)
    (subst (λ (names : List Name). IsKept names is (places ++ 0 ∷ [])) (sym (inserted keys c.insert.new.self.keys c.args.name c.in_ok-insert.ensures.keys)) (kept_more (key_names keys) is places c.args.name.items c.self.invariant))

pub returns : goal.returns
returns c =
    let keys = c.self.inside.names.keys in
    let is = c.self.inside.found.items in
    let x = c.args.name.items in
    ap (λ (names : List Name). viewed names is) (inserted keys c.insert.new.self.keys c.args.name c.in_ok-insert.ensures.keys)
    ∙ ap (λ (found : List Name). record { declared = with_name (key_names keys) x; found = found }) (names-more (key_names keys) is x c.self.invariant.numbered)
    ∙ ap (λ (v : VariableNames). record { declared = with_name v.declared x; found = v.found }) c.self.view_is
