use Rattle.std.proofs.Common.{◌≡◌, ℕ, ◌+◌, ◌-◌, ◌*◌, ◌/◌, ◌%◌, ◌^◌, ◌<◌, ◌≤◌, refl, sym, ap, ◌∙◌, subst, arith}
use Rattle.std.specs.Prelude.{slice_set}
use Rattle.std.proofs.lemmas.Bool.{false≢true}
use Rattle.std.proofs.lemmas.Nat.{mod-mul-add, mod_below, one_shl, pow_pos}
use Rattle.pt_model.specs.declared.block.Block.{Block}
use Rattle.pt_model.specs.Layout.{input_pages, output_pages, level_of_size, pages_of_table, IsLegalBlock}
use Rattle.pt_model.specs.Words.{entry_place}
use Rattle.pt_view.specs.Pieces.{word_of, words_of}
use Rattle.pt_image.specs.Bytes.{entry_at}
use Rattle.pt_image.specs.Checks.{HasBlock, position_of}
use Rattle.pt_image.specs.Drafts.{group_words, part_of}
use Rattle.pt_image.proofs.Entries.{entry_multiple}
use Rattle.pt_image.proofs.Groups.{fits}
use Rattle.pt_image.proofs.OneBlock.{begins_out, begins_size}
use Rattle.pt_image.proofs.Sizes.{size_few}
use Rattle.pt_image.proofs.block.copy_block.Goals as goal
use Rattle.pt_image.proofs.block.copy_block.Goals.{then-not-is_aligned-via-then-not-is_aligned, then-not-is_aligned-via-else-not-is_aligned+then-not-is_aligned-2}

pub overflow_shl-pages : goal.overflow_shl-pages
overflow_shl-pages g c = size_few g.met.F.Format.lawful_layout c.requires.leaf

pub is_aligned-requires : goal.is_aligned-requires
is_aligned-requires g c = size_few g.met.F.Format.lawful_layout c.requires.leaf

pub is_aligned-requires-else-not-is_aligned : goal.is_aligned-requires-else-not-is_aligned
is_aligned-requires-else-not-is_aligned g c = size_few g.met.F.Format.lawful_layout c.requires.leaf

pub returns-then-log2-INDEX-clause-copied : goal.returns-then-log2-INDEX-clause-copied
returns-then-log2-INDEX-clause-copied g c =
    let f = g.F.Format.layout in
    let law = g.met.F.Format in
    let leaf = c.requires.leaf in
    let constants = law.has_constants in
    let pages : (1 * 2 ^ c.args.log2) % 18446744073709551616 ≡ 2 ^ c.args.log2 = one_shl c.args.log2 64 (size_few law.lawful_layout leaf) in
    let input : c.INPUT.result - c.GRANULE.result ≡ f.input - f.granule = (let a = c.INPUT.ensures ∙ sym constants.input_is in let b = c.GRANULE.ensures ∙ sym constants.granule_is in omega arith) in
    let inputs : (1 * 2 ^ (c.INPUT.result - c.GRANULE.result)) % 18446744073709551616 ≡ input_pages f =
    one_shl (c.INPUT.result - c.GRANULE.result) 64 (let a = law.lawful_layout.pages_high in omega arith) ∙ ap (λ b. 2 ^ b) input in
    let log2 : c.args.log2 ≡ f.index * c.args.table.level = c.if-log2-INDEX.true ∙ ap (λ (k : ℕ). k * c.args.table.level) (c.INDEX.ensures ∙ sym constants.index_is) in
    let none : c.args.log2 - f.index * c.args.table.level ≡ 0 = omega arith in
    let part : leaf.part ≡ 0 = (let a = subst (λ (k : ℕ). leaf.part < 2 ^ k) none leaf.may.a_part in omega arith) in
    let b : Block = record { first = c.args.entry.first; log2 = c.args.log2; out = leaf.out; prot = c.args.prot } in
    let m : ℕ = c.args.table.base / pages_of_table f c.args.table.level * 2 ^ f.index + c.args.entry.number in
    let first : c.args.entry.first ≡ m * 2 ^ c.args.log2 =
    c.requires.entry.first_is ∙ entry_multiple f (position_of c.args.table) c.args.entry.number c.requires.table.at.aligned ∙ ap (λ (k : ℕ). m * 2 ^ k) (sym log2) in
    let first_aligned : c.args.entry.first % 2 ^ c.args.log2 ≡ 0 =
    ap (λ (k : ℕ). k % 2 ^ c.args.log2) (first ∙ (let z : m * 2 ^ c.args.log2 ≡ m * 2 ^ c.args.log2 + 0 = omega arith in z)) ∙ mod-mul-add m (2 ^ c.args.log2) 0 (pow_pos c.args.log2) in
    let in_input : c.args.entry.first + 2 ^ c.args.log2 ≤ input_pages f = (let a = c.if-entry-pages.false in omega arith) in
    let one : words_of f b ≡ 1 = ap (λ (k : ℕ). 2 ^ (c.args.log2 - f.index * k)) leaf.may.at_level ∙ ap (λ (k : ℕ). 2 ^ k) none in
    let word : c.args.entry.word ≡ f.leaf (level_of_size f c.args.log2) c.args.log2 leaf.out c.args.prot 0 =
    leaf.word_is ∙ (λ i. f.leaf (sym leaf.may.at_level i) c.args.log2 leaf.out c.args.prot (part i)) in
    let here : c.args.entry.number ≡ c.args.entry.number + 0 = omega arith in
    record {
      block = b;
      level_is = leaf.may.at_level;
      first_is = refl;
      legal = record { a_size = leaf.may.a_size; first_aligned = first_aligned; out_aligned = leaf.may.aligned; in_input = in_input; in_output = leaf.may.within };
      stated = leaf.may.stated;
      count_is = one;
      words_are = λ i. slice_set c.args.words.now ((c.entry_place.ensures.place ∙ ap (entry_place f c.args.header.now.frames c.args.table.frame) here) i) (word i);
      image_has = λ part lt. let zero : part ≡ 0 = omega arith in
          ap (λ x. entry_at f c.args.image.now c.args.table.frame (c.args.entry.number + x)) zero ∙ ap (entry_at f c.args.image.now c.args.table.frame) (sym here)
          ∙ sym c.requires.entry.word_is ∙ word ∙ ap (λ x. word_of f (part_of b x)) (sym zero);
    }

pub copy_words-requires : goal.copy_words-requires
copy_words-requires g c =
    let f = g.F.Format.layout in
    let law = g.met.F.Format in
    let leaf = c.requires.leaf in
    let constants = law.has_constants in
    let pages : (1 * 2 ^ c.args.log2) % 18446744073709551616 ≡ 2 ^ c.args.log2 = one_shl c.args.log2 64 (size_few law.lawful_layout leaf) in
    let input : c.INPUT.result - c.GRANULE.result ≡ f.input - f.granule = (let a = c.INPUT.ensures ∙ sym constants.input_is in let b = c.GRANULE.ensures ∙ sym constants.granule_is in omega arith) in
    let output : c.OUTPUT.result - c.GRANULE-2.result ≡ f.output - f.granule = (let a = c.OUTPUT.ensures ∙ sym constants.output_is in let b = c.GRANULE-2.ensures ∙ sym constants.granule_is in omega arith) in
    let inputs : (1 * 2 ^ (c.INPUT.result - c.GRANULE.result)) % 18446744073709551616 ≡ input_pages f =
    one_shl (c.INPUT.result - c.GRANULE.result) 64 (let a = law.lawful_layout.pages_high in omega arith) ∙ ap (λ b. 2 ^ b) input in
    let outputs : (1 * 2 ^ (c.OUTPUT.result - c.GRANULE-2.result)) % 18446744073709551616 ≡ output_pages f =
    one_shl (c.OUTPUT.result - c.GRANULE-2.result) 64 (let a = law.lawful_layout.output_high in let d = law.lawful_layout.granule_low in omega arith) ∙ ap (λ b. 2 ^ b) output in
    let b : Block = record { first = c.args.entry.first; log2 = c.args.log2; out = c.out_of-out.result; prot = c.args.prot } in
    let out_aligned : c.out_of-out.result % 2 ^ c.args.log2 ≡ 0 = c.is_aligned-else-not-is_aligned.ensures.0 c.if-not-is_aligned-2.false in
    let in_output : c.out_of-out.result + 2 ^ c.args.log2 ≤ output_pages f = (let a = c.if-out-pages.false in omega arith) in
    let legal : IsLegalBlock f b = record {
      a_size = leaf.may.a_size;
      first_aligned = c.is_aligned.ensures.0 c.if-not-is_aligned.false;
      out_aligned = out_aligned;
      in_input = let a = c.if-entry-pages.false in omega arith;
      in_output = in_output;
    } in
    record {
      header = c.requires.header;
      words = c.requires.words;
      table = c.requires.table;
      level = leaf.may.at_level;
      fits = fits f law.lawful_layout c.args.entry.number (position_of c.args.table) c.requires.table.at.aligned c.requires.entry.below b leaf.may.at_level c.requires.entry.first_is legal leaf.may.stated;
      leaf = λ part lt. record {
        below = leaf.may.below;
        a_size = leaf.may.a_size;
        at_level = leaf.may.at_level;
        aligned = out_aligned;
        within = in_output;
        stated = leaf.may.stated;
        a_part = subst (λ (k : ℕ). part < 2 ^ (c.args.log2 - f.index * k)) leaf.may.at_level lt;
      };
    }

pub returns-then-copy_words-clause-copied : goal.returns-then-copy_words-clause-copied
returns-then-copy_words-clause-copied g c =
    let f = g.F.Format.layout in
    let law = g.met.F.Format in
    let leaf = c.requires.leaf in
    let constants = law.has_constants in
    let pages : (1 * 2 ^ c.args.log2) % 18446744073709551616 ≡ 2 ^ c.args.log2 = one_shl c.args.log2 64 (size_few law.lawful_layout leaf) in
    let input : c.INPUT.result - c.GRANULE.result ≡ f.input - f.granule = (let a = c.INPUT.ensures ∙ sym constants.input_is in let b = c.GRANULE.ensures ∙ sym constants.granule_is in omega arith) in
    let output : c.OUTPUT.result - c.GRANULE-2.result ≡ f.output - f.granule = (let a = c.OUTPUT.ensures ∙ sym constants.output_is in let b = c.GRANULE-2.ensures ∙ sym constants.granule_is in omega arith) in
    let inputs : (1 * 2 ^ (c.INPUT.result - c.GRANULE.result)) % 18446744073709551616 ≡ input_pages f =
    one_shl (c.INPUT.result - c.GRANULE.result) 64 (let a = law.lawful_layout.pages_high in omega arith) ∙ ap (λ b. 2 ^ b) input in
    let outputs : (1 * 2 ^ (c.OUTPUT.result - c.GRANULE-2.result)) % 18446744073709551616 ≡ output_pages f =
    one_shl (c.OUTPUT.result - c.GRANULE-2.result) 64 (let a = law.lawful_layout.output_high in let d = law.lawful_layout.granule_low in omega arith) ∙ ap (λ b. 2 ^ b) output in
    let b : Block = record { first = c.args.entry.first; log2 = c.args.log2; out = c.out_of-out.result; prot = c.args.prot } in
    let index : c.INDEX-then-copy_words.result * c.args.table.level ≡ f.index * c.args.table.level = ap (λ (k : ℕ). k * c.args.table.level) (c.INDEX-then-copy_words.ensures ∙ sym constants.index_is) in
    let small : c.args.log2 - c.INDEX-then-copy_words.result * c.args.table.level < 32 =
    (let pos : 0 < f.index = (let a = law.lawful_layout.index_is in let d = law.lawful_layout.granule_low in omega arith) in
    let m = mod_below c.args.log2 f.index pos in
    let next : c.args.log2 < (c.args.log2 / f.index + 1) * f.index = omega arith in
    let at : c.args.log2 < (c.args.table.level + 1) * f.index = subst (λ (k : ℕ). c.args.log2 < (k + 1) * f.index) leaf.may.at_level next in
    let a = law.lawful_layout.index_is in let h = law.lawful_layout.granule_high in
    let split : (c.args.table.level + 1) * f.index ≡ f.index * c.args.table.level + f.index = omega arith in omega arith) in
    let count : words_of f b ≡ (1 * 2 ^ (c.args.log2 - c.INDEX-then-copy_words.result * c.args.table.level)) % 4294967296 =
    ap (λ (k : ℕ). 2 ^ (c.args.log2 - f.index * k)) leaf.may.at_level ∙ ap (λ (k : ℕ). 2 ^ (c.args.log2 - k)) (sym index)
    ∙ sym (one_shl (c.args.log2 - c.INDEX-then-copy_words.result * c.args.table.level) 32 small) in
    record {
      block = b;
      level_is = leaf.may.at_level;
      first_is = refl;
      legal = record {
        a_size = leaf.may.a_size;
        first_aligned = c.is_aligned.ensures.0 c.if-not-is_aligned.false;
        out_aligned = c.is_aligned-else-not-is_aligned.ensures.0 c.if-not-is_aligned-2.false;
        in_input = let a = c.if-entry-pages.false in omega arith;
        in_output = let a = c.if-out-pages.false in omega arith;
      };
      stated = leaf.may.stated;
      count_is = count;
      words_are = c.copy_words.ensures.copied c.if-copy_words.true ∙ ap (group_words f c.args.header.now.frames c.args.words.now c.args.table.frame c.args.entry.number b) count;
      image_has = λ part lt. c.copy_words.ensures.has c.if-copy_words.true part (let e = count in omega arith);
    }

pub returns-then-entry-pages-clause-lacks : goal.returns-then-entry-pages-clause-lacks
returns-then-entry-pages-clause-lacks g c b h =
    let f = g.F.Format.layout in
    let law = g.met.F.Format in
    let leaf = c.requires.leaf in
    let size = begins_size f law.lawful_layout law.words_differ law.steps_agree c.args.image.now c.args.table.frame (position_of c.args.table) c.args.entry.number b h c.args.entry.word c.args.log2 c.args.prot leaf c.requires.entry.word_is in
    let first : b.first ≡ c.args.entry.first = h.first_is ∙ sym c.requires.entry.first_is in
    let constants = law.has_constants in
    let pages : (1 * 2 ^ c.args.log2) % 18446744073709551616 ≡ 2 ^ c.args.log2 = one_shl c.args.log2 64 (size_few law.lawful_layout leaf) in
    let input : c.INPUT.result - c.GRANULE.result ≡ f.input - f.granule = (let a = c.INPUT.ensures ∙ sym constants.input_is in let b = c.GRANULE.ensures ∙ sym constants.granule_is in omega arith) in
    let inputs : (1 * 2 ^ (c.INPUT.result - c.GRANULE.result)) % 18446744073709551616 ≡ input_pages f =
    one_shl (c.INPUT.result - c.GRANULE.result) 64 (let a = law.lawful_layout.pages_high in omega arith) ∙ ap (λ b. 2 ^ b) input in
    let same : 2 ^ b.log2 ≡ 2 ^ c.args.log2 = ap (λ (k : ℕ). 2 ^ k) size.0 in
    let a = h.legal.in_input in let over = c.if-entry-pages.true in omega arith

pub returns-then-not-is_aligned-clause-lacks : goal.returns-then-not-is_aligned-clause-lacks
returns-then-not-is_aligned-clause-lacks g c b h =
    let f = g.F.Format.layout in
    let law = g.met.F.Format in
    let leaf = c.requires.leaf in
    let size = begins_size f law.lawful_layout law.words_differ law.steps_agree c.args.image.now c.args.table.frame (position_of c.args.table) c.args.entry.number b h c.args.entry.word c.args.log2 c.args.prot leaf c.requires.entry.word_is in
    let first : b.first ≡ c.args.entry.first = h.first_is ∙ sym c.requires.entry.first_is in
    let out : b.out ≡ c.out_of-out.result = begins_out f law.lawful_layout law.words_differ law.steps_agree c.args.image.now c.args.table.frame (position_of c.args.table) c.args.entry.number b h c.args.entry.word c.args.log2 c.args.prot leaf c.requires.entry.word_is
    c.out_of-out.result (λ log2 prot is. ap (f.step c.args.table.level c.args.entry.word) (sym c.requires.entry.first_is) ∙ c.out_of-out.ensures.page log2 prot is) in
    elim c.then-not-is_aligned.branch [
      | then-not-is_aligned-via-then-not-is_aligned w ↦
          let aligned : c.args.entry.first % 2 ^ c.args.log2 ≡ 0 = sym (λ i. first i % 2 ^ size.0 i) ∙ h.legal.first_aligned in
          false≢true (sym w.if-not-is_aligned.true ∙ c.is_aligned.ensures.1 aligned)
      | then-not-is_aligned-via-else-not-is_aligned+then-not-is_aligned-2 w ↦
          let aligned : c.out_of-out.result % 2 ^ c.args.log2 ≡ 0 = sym (λ i. out i % 2 ^ size.0 i) ∙ h.legal.out_aligned in
          false≢true (sym w.if-not-is_aligned-2.true ∙ w.is_aligned-else-not-is_aligned.ensures.1 aligned)
    ]

pub returns-then-out-pages-clause-lacks : goal.returns-then-out-pages-clause-lacks
returns-then-out-pages-clause-lacks g c b h =
    let f = g.F.Format.layout in
    let law = g.met.F.Format in
    let leaf = c.requires.leaf in
    let size = begins_size f law.lawful_layout law.words_differ law.steps_agree c.args.image.now c.args.table.frame (position_of c.args.table) c.args.entry.number b h c.args.entry.word c.args.log2 c.args.prot leaf c.requires.entry.word_is in
    let first : b.first ≡ c.args.entry.first = h.first_is ∙ sym c.requires.entry.first_is in
    let out : b.out ≡ c.out_of-out.result = begins_out f law.lawful_layout law.words_differ law.steps_agree c.args.image.now c.args.table.frame (position_of c.args.table) c.args.entry.number b h c.args.entry.word c.args.log2 c.args.prot leaf c.requires.entry.word_is
    c.out_of-out.result (λ log2 prot is. ap (f.step c.args.table.level c.args.entry.word) (sym c.requires.entry.first_is) ∙ c.out_of-out.ensures.page log2 prot is) in
    let constants = law.has_constants in
    let pages : (1 * 2 ^ c.args.log2) % 18446744073709551616 ≡ 2 ^ c.args.log2 = one_shl c.args.log2 64 (size_few law.lawful_layout leaf) in
    let output : c.OUTPUT.result - c.GRANULE-2.result ≡ f.output - f.granule = (let a = c.OUTPUT.ensures ∙ sym constants.output_is in let b = c.GRANULE-2.ensures ∙ sym constants.granule_is in omega arith) in
    let outputs : (1 * 2 ^ (c.OUTPUT.result - c.GRANULE-2.result)) % 18446744073709551616 ≡ output_pages f =
    one_shl (c.OUTPUT.result - c.GRANULE-2.result) 64 (let a = law.lawful_layout.output_high in let d = law.lawful_layout.granule_low in omega arith) ∙ ap (λ b. 2 ^ b) output in
    let same : 2 ^ b.log2 ≡ 2 ^ c.args.log2 = ap (λ (k : ℕ). 2 ^ k) size.0 in
    let a = h.legal.in_output in let over = c.if-out-pages.true in omega arith

pub returns-else-copy_words-clause-lacks : goal.returns-else-copy_words-clause-lacks
returns-else-copy_words-clause-lacks g c b h =
    let f = g.F.Format.layout in
    let law = g.met.F.Format in
    let leaf = c.requires.leaf in
    let size = begins_size f law.lawful_layout law.words_differ law.steps_agree c.args.image.now c.args.table.frame (position_of c.args.table) c.args.entry.number b h c.args.entry.word c.args.log2 c.args.prot leaf c.requires.entry.word_is in
    let first : b.first ≡ c.args.entry.first = h.first_is ∙ sym c.requires.entry.first_is in
    let out : b.out ≡ c.out_of-out.result = begins_out f law.lawful_layout law.words_differ law.steps_agree c.args.image.now c.args.table.frame (position_of c.args.table) c.args.entry.number b h c.args.entry.word c.args.log2 c.args.prot leaf c.requires.entry.word_is
    c.out_of-out.result (λ log2 prot is. ap (f.step c.args.table.level c.args.entry.word) (sym c.requires.entry.first_is) ∙ c.out_of-out.ensures.page log2 prot is) in
    let is : b ≡ record { first = c.args.entry.first; log2 = c.args.log2; out = c.out_of-out.result; prot = c.args.prot } =
    (λ i. record { first = first i; log2 = size.0 i; out = out i; prot = size.1 i }) in
    c.copy_words.ensures.lacks c.if-copy_words.false
    (subst (λ (x : Block). HasBlock f c.args.image.now c.args.table.frame c.args.entry.number x (words_of f x)) is h.words)
