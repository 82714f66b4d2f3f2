-- One word more at the end of a line.
use Rattle.std.proofs.Common.{◌≡◌, ℕ, zero, suc, ◌+◌, ◌<◌, ◌≤◌, List, [], ◌∷◌, ◌++◌, length, get_or, take, sym, ap, ◌∙◌, append_assoc, append-nil, arith, length-take}
use Rattle.std.proofs.lemmas.List.{take_more}
use Rattle.yard_text.specs.declared.word.Word.{Word}
use Rattle.yard_text.specs.Words.{word_bytes, further, parted}

further_more : (ws : List Word) (w : Word) → further (ws ++ w ∷ []) ≡ further ws ++ (32 ∷ word_bytes w)
further_more [] w = ap (λ l. 32 ∷ l) (append-nil (word_bytes w))
further_more (v ∷ ws) w = ap (λ l. 32 ∷ (word_bytes v ++ l)) (further_more ws w) ∙ ap (λ l. 32 ∷ l) (sym (append_assoc (word_bytes v) (further ws) (32 ∷ word_bytes w)))

parted_more : (ws : List Word) (w : Word) → 0 < length ws → parted (ws ++ w ∷ []) ≡ parted ws ++ (32 ∷ word_bytes w)
parted_more [] w lt = absurd (omega arith)
parted_more (v ∷ ws) w lt = ap (λ l. word_bytes v ++ l) (further_more ws w) ∙ sym (append_assoc (word_bytes v) (further ws) (32 ∷ word_bytes w))

-- for a loop over the words: the first one, and each later one after a blank
pub first_word
    : (ws : List Word) (d : Word) (i : ℕ) (old new : List ℕ) → i < length ws → i ≤ 0 → old ≡ parted (take i ws)
    → new ≡ old ++ word_bytes (get_or ws i d) → new ≡ parted (take (i + 1) ws)
first_word (w ∷ ws) d zero old new lt z had now = now ∙ ap (λ l. l ++ word_bytes w) had ∙ sym (append-nil (word_bytes w))
first_word ws d (suc i) old new lt z had now = absurd (omega arith)
first_word [] d zero old new lt z had now = absurd (omega arith)

pub later_word
    : (ws : List Word) (d : Word) (i : ℕ) (old mid new : List ℕ) → i < length ws → 0 < i → old ≡ parted (take i ws)
    → mid ≡ old ++ 32 ∷ [] → new ≡ mid ++ word_bytes (get_or ws i d) → new ≡ parted (take (i + 1) ws)
later_word ws d i old mid new lt some had blank now =
    let long : 0 < length (take i ws) = simp length-take (omega arith) in
    let w = word_bytes (get_or ws i d) in
    now ∙ ap (λ l. l ++ w) (blank ∙ ap (λ l. l ++ 32 ∷ []) had) ∙ append_assoc (parted (take i ws)) (32 ∷ []) w
    ∙ sym (parted_more (take i ws) (get_or ws i d) long) ∙ ap parted (sym (take_more ws i d lt))
