use Rattle.std.proofs.Common.{◌≡◌, [], ◌∷◌, ◌++◌, string_bytes, ap, ◌∙◌, rules}
use Rattle.yard_text.proofs.Lines.{first_word, later_word}
use Rattle.yard_text.proofs.word.line.Goals.{then-i-gt0+in_ok-push, else-i-gt0}
use Rattle.yard_text.proofs.word.line.Goals as goal

pub loop-i-preserved : goal.loop-i-preserved
loop-i-preserved c =
    let ws = c.args.words.now in
    let old = string_bytes c.loop-i.bytes in
    let mid = string_bytes c.if-i-gt0.bytes in
    let word = string_bytes c.in_ok-text.field-0 in
    let told = c.in_ok-text.ensures in
    let put : string_bytes c.push_str.new.self ≡ mid ++ word = search rules in
    elim c.if-i-gt0.branch [
      | then-i-gt0+in_ok-push w ↦
          let blank : string_bytes w.push.new.self ≡ old ++ 32 ∷ [] = search rules in
          later_word ws _ c.loop-i.i old mid _ c.loop-i-test.true w.if-i-gt0.true c.loop-i.invariant (ap string_bytes w.bytes-is ∙ blank) (put ∙ ap (λ l. mid ++ l) told)
      | else-i-gt0 w ↦
          first_word ws _ c.loop-i.i old _ c.loop-i-test.true w.if-i-gt0.false c.loop-i.invariant (put ∙ ap (λ l. l ++ word) (ap string_bytes w.bytes-is) ∙ ap (λ l. old ++ l) told)
    ]
