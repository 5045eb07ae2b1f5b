-- The open forks, outermost first.
use Rattle.std.proofs.Common.{◌≡◌, ◌+◌, ◌<◌, true, false, List, [], ◌∷◌, ◌++◌, length, reverse, refl, ap, subst, sym, ◌∙◌, arith}
use Rattle.std.specs.Prelude.{Option, Some, None, IsTrue, IsSome}
use Rattle.std.specs.Option.{option_to_list}
use Rattle.std.proofs.lemmas.List.{reverse-append}
use Rattle.pt_script.specs.declared.line.Side.{Side}
use Rattle.pt_script.specs.declared.line.Side.TheVariants.{Left, Right}
use Rattle.pt_script.specs.declared.line.Keyword.TheVariants as keyword
use Rattle.pt_script.specs.declared.line.Line.TheVariants as form
use Rattle.pt_script.specs.Grammar.{InBody, may_stand, behind}
use Rattle.pt_script.specs.Progress.{owed}
use Rattle.pt_script.proofs.Steps.{never}

pub owed-append : (xs ys : List Side) → owed (xs ++ ys) ≡ owed xs + owed ys
owed-append [] ys = omega arith
owed-append (Left ∷ xs) ys = omega (arith, owed-append xs ys)
owed-append (Right ∷ xs) ys = omega (arith, owed-append xs ys)

pub opened : (old new : List Side) → new ≡ old ++ Left ∷ [] → (InBody (reverse new) ≡ InBody (Left ∷ reverse old)) × (owed new ≡ owed old + 2)
opened old new e = (ap (λ xs. InBody (reverse xs)) e ∙ ap InBody (reverse-append old (Left ∷ [])), ap owed e ∙ owed-append old (Left ∷ []))

-- the innermost fork
pub record Last (old mid : List Side) (side : Side) : Type 0 where
  pub back : reverse old ≡ side ∷ reverse mid
  pub owing : owed old ≡ owed mid + owed (side ∷ [])

last_is : (old mid : List Side) (side : Side) → old ≡ mid ++ side ∷ [] → Last old mid side
last_is old mid side e = record { back = ap reverse e ∙ reverse-append mid (side ∷ []); owing = ap owed e ∙ owed-append mid (side ∷ []) }

none_stands : (old mid : List Side) → old ≡ mid ++ [] → (0 < length old → false ≡ true) → old ≡ []
none_stands [] mid e h = refl
none_stands (x ∷ xs) mid e h = absurd (never (h (omega arith)))

pub switched : (old mid new : List Side) (o : Option Side) → IsTrue (may_stand keyword.With (InBody (reverse old))) → old ≡ mid ++ option_to_list o → (0 < length old → IsSome o)
    → new ≡ mid ++ Right ∷ [] → (InBody (reverse new) ≡ behind form.With (InBody (reverse old))) × (owed new + 1 ≡ owed old)
switched old mid new None stands e some f = absurd (never (subst (λ xs. IsTrue (may_stand keyword.With (InBody (reverse xs)))) (none_stands old mid e some) stands))
switched old mid new (Some Left) stands e some f =
    let l = last_is old mid Left e in
    let n = last_is new mid Right f in
    (ap InBody n.back ∙ ap (λ xs. behind form.With (InBody xs)) (sym l.back), omega (arith, l.owing, n.owing))
switched old mid new (Some Right) stands e some f =
    let l = last_is old mid Right e in
    absurd (never (subst (λ xs. IsTrue (may_stand keyword.With (InBody xs))) l.back stands))

pub left : (old mid : List Side) (o : Option Side) → IsTrue (may_stand keyword.End (InBody (reverse old))) → old ≡ mid ++ option_to_list o → (0 < length old → IsSome o)
    → (InBody (reverse mid) ≡ behind form.End (InBody (reverse old))) × (owed mid + 1 ≡ owed old)
left old mid None stands e some = absurd (never (subst (λ xs. IsTrue (may_stand keyword.End (InBody (reverse xs)))) (none_stands old mid e some) stands))
left old mid (Some Right) stands e some =
    let l = last_is old mid Right e in
    (ap (λ xs. behind form.End (InBody xs)) (sym l.back), omega (arith, l.owing))
left old mid (Some Left) stands e some =
    let l = last_is old mid Left e in
    absurd (never (subst (λ xs. IsTrue (may_stand keyword.End (InBody xs))) l.back stands))
