-- The frame to which a word points.
use Rattle.std.proofs.Common.{◌≡◌, ◌≢◌, ℕ, zero, suc, ◌+◌, ◌-◌, ◌*◌, ◌/◌, ◌^◌, ◌<◌, ◌≤◌, Bool, refl, sym, ap, ◌∙◌, arith}
use Rattle.std.specs.Prelude.{None, Some, if◌then◌else◌}
use Rattle.std.proofs.lemmas.Bool.{eq-eqb, ne_eqb}
use Rattle.std.proofs.lemmas.Nat.{shl-shr}
use mathlib.Core.Logic.{dite}
use native.Mathlib.Decide.{ℕ_discrete}
use Rattle.pt_model.specs.Layout.{Layout}
use Rattle.pt_model.specs.Words.{frame_address, frame_limit, frame_named}
use Rattle.pt_format.specs.Laws.{WordsDiffer}
use Rattle.pt_format.specs.Words.{IsPointer, IsTableAddress, IsTableLevel}
use Rattle.pt_image.specs.Order.{pointed}
use Rattle.pt_image.proofs.Visiting.{address_back}

pub pointed_none : (f : Layout) (level n word : ℕ) → ((g : ℕ) → g < n → 0 < level → word ≢ f.pointer level (frame_address f g)) → pointed f level n word ≡ None
pointed_none f zero n word free = refl
pointed_none f (suc level) zero word free = refl
pointed_none f (suc level) (suc n) word free =
    ap (λ (b : Bool). if b then Some n else pointed f (suc level) n word) (ne_eqb (f.pointer (suc level) (frame_address f n)) word (λ e. free n (omega arith) (omega arith) (sym e)))
    ∙ pointed_none f (suc level) n word (λ g lt high. free g (omega arith) high)

pub frame_back : (f : Layout) (frame : ℕ) → frame_named f (frame_address f frame) ≡ frame
frame_back f frame =
    let e : 2 ^ 32 + frame * 2 ^ f.granule - 2 ^ 32 ≡ frame * 2 ^ f.granule = omega arith in
    ap (λ x. x / 2 ^ f.granule) e ∙ shl-shr frame f.granule

pub is_address : (f : Layout) (frame : ℕ) → frame < frame_limit f → IsTableAddress f (frame_address f frame)
is_address f frame within = record { frame = frame; in_limit = within; address_is = refl }

-- two frames don't have one pointer
pub one_pointer : (f : Layout) → WordsDiffer f → (level g h : ℕ) → IsTableLevel f level → g < frame_limit f → h < frame_limit f →
    f.pointer level (frame_address f g) ≡ f.pointer level (frame_address f h) → g ≡ h
one_pointer f differ level g h high a b e =
    sym (frame_back f g) ∙ ap (frame_named f) (differ.one_address level (frame_address f g) (frame_address f h) high (is_address f g a) (is_address f h b) e) ∙ frame_back f h

pub pointed_some : (f : Layout) → WordsDiffer f → (level n word g : ℕ) → IsTableLevel f level → n ≤ frame_limit f → g < n → word ≡ f.pointer level (frame_address f g) →
    pointed f level n word ≡ Some g
pointed_some f differ zero n word g high few lt is = absurd (let a = high.above in omega arith)
pointed_some f differ (suc level) zero word g high few lt is = absurd (omega arith)
pointed_some f differ (suc level) (suc n) word g high few lt is = dite (ℕ_discrete g n)
    (λ e. ap (λ (b : Bool). if b then Some n else pointed f (suc level) n word)
    (eq-eqb (f.pointer (suc level) (frame_address f n)) word (ap (λ (k : ℕ). f.pointer (suc level) (frame_address f k)) (sym e) ∙ sym is)) ∙ ap Some (sym e))
    (λ ne. ap (λ (b : Bool). if b then Some n else pointed f (suc level) n word)
    (ne_eqb (f.pointer (suc level) (frame_address f n)) word (λ e. ne (one_pointer f differ (suc level) g n high (omega arith) (omega arith) (sym is ∙ sym e))))
    ∙ pointed_some f differ (suc level) n word g high (omega arith) (omega arith) is)

-- a pointer whose address names no frame below n points to none of them
pub names_none : (f : Layout) → WordsDiffer f → (level n word address : ℕ) → n ≤ frame_limit f → IsPointer f level word address → n ≤ frame_named f address → pointed f level n word ≡ None
names_none f differ level n word address few is over = pointed_none f level n word
    (λ g lt high e.
    let same : address ≡ frame_address f g = differ.one_address level address (frame_address f g) is.at_level is.a_frame (is_address f g (omega arith)) (sym is.word_is ∙ e) in
    let named : frame_named f address ≡ g = ap (frame_named f) same ∙ frame_back f g in omega arith)

-- and one whose address does points to that one
pub names_some : (f : Layout) → WordsDiffer f → (level n word address child : ℕ) → n ≤ frame_limit f → IsPointer f level word address → child ≡ frame_named f address → child < n →
    (word ≡ f.pointer level (frame_address f child)) × (pointed f level n word ≡ Some child)
names_some f differ level n word address child few is named lt =
    let at : word ≡ f.pointer level (frame_address f child) = is.word_is ∙ ap (f.pointer level) (address_back f address is.a_frame ∙ ap (frame_address f) (sym named)) in
    (at, pointed_some f differ level n word child is.at_level few lt at)
