-- The lacking positions, and the frames that are spent on them.
use Rattle.std.proofs.Common.{◌≡◌, ℕ, ◌+◌, ◌<◌, ◌≤◌, List, [], ◌++◌, length, inl, inr, refl, ap, sym, ◌∙◌, arith, append_assoc, length-append}
use Rattle.std.specs.Prelude.{◌⊎◌, filter, not}
use Rattle.pt_model.specs.declared.position.Position.{Position}
use Rattle.pt_model.specs.Tables.{is_same, needed}
use Rattle.pt_model.proofs.Positions.{among_filtered, among_passes, filter_fewer, is_same_self, same_cases}
use Rattle.pt_view.specs.declared.view.View.{View}
use Rattle.pt_model.specs.Sets.{IsAmong}
use Rattle.pt_map.specs.Filled.{HasRoom, Spends}

-- a list without a position
abbrev pub without : Position → List Position → List Position
without p ps = filter (λ q. not (is_same p q)) ps

without_length : (p : Position) (ps : List Position) → IsAmong ps p → length (without p ps) < length ps
without_length p ps h = filter_fewer (λ q. not (is_same p q)) ps p h (ap not (is_same_self p p refl))

without_each : (p : Position) (ps : List Position) (r : Position) → IsAmong ps r → (r ≡ p) ⊎ IsAmong (without p ps) r
without_each p ps r h = elim (same_cases p r) [
  | inl same ↦ inl (sym same)
  | inr other ↦ inr (among_passes (λ q. not (is_same p q)) ps r h (ap not other))
]

-- nothing is spent
pub spends_none : (v w : View) (lacking : List Position) → w.purse ≡ v.purse → Spends v w lacking lacking
spends_none v w lacking e = record {
  used = [];
  purse = sym e;
  few = omega arith;
  only = λ p h. h;
  each = λ p h. inr h;
}

-- one position is known, for one frame or none
pub spends_one : (v w : View) (lacking : List Position) (p : Position) (used : List ℕ) → length used ≤ 1 → v.purse ≡ used ++ w.purse → IsAmong lacking p → IsAmong w.known p →
    Spends v w lacking (without p lacking)
spends_one v w lacking p used one purse lacks known = record {
  used = used;
  purse = purse;
  few = (let fewer = without_length p lacking lacks in omega arith);
  only = λ r h. (among_filtered (λ q. not (is_same p q)) lacking r h).0;
  each = λ r h. elim (without_each p lacking r h) [ inl e ↦ inl (rw e known) | inr more ↦ inr more ];
}

-- spending goes on
pub spends_on : (u v w : View) (xs ys zs : List Position) → ((p : Position) → IsAmong v.known p → IsAmong w.known p) → Spends u v xs ys → Spends v w ys zs → Spends u w xs zs
spends_on u v w xs ys zs known a b = record {
  used = a.used ++ b.used;
  purse = a.purse ∙ ap (λ (qs : List ℕ). a.used ++ qs) b.purse ∙ sym (append_assoc a.used b.used w.purse);
  few = let m = a.few in let n = b.few in let e = length-append a.used b.used in omega arith;
  only = λ p h. a.only p (b.only p h);
  each = λ p h. elim (a.each p h) [ inl k ↦ inl (known p k) | inr s ↦ b.each p s ];
}

-- what still lacks has room
pub room_on : (v w : View) (needed fewer xs ys : List Position) → ((p : Position) → IsAmong v.known p → IsAmong w.known p) → ((p : Position) → IsAmong fewer p → IsAmong needed p) →
    HasRoom v needed xs → Spends v w xs ys → HasRoom w fewer ys
room_on v w needed fewer xs ys known part room s = record {
  each = λ p h. elim (room.each p (part p h)) [ inl k ↦ inl (known p k) | inr lacks ↦ s.each p lacks ];
  frames = let a = room.frames in let b = s.few in let e : length v.purse ≡ length s.used + length w.purse = ap length s.purse ∙ length-append s.used w.purse in omega arith;
}

pub room_part : (v : View) (needed fewer xs : List Position) → ((p : Position) → IsAmong fewer p → IsAmong needed p) → HasRoom v needed xs → HasRoom v fewer xs
room_part v needed fewer xs part room = record { each = λ p h. room.each p (part p h); frames = room.frames }
