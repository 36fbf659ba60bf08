use Rattle.std.proofs.Common.{◌≡◌, ◌++◌, ◌∷◌, List, [], ℕ, Some, None, sym, ap, ◌∙◌, append_assoc}
use Rattle.std.proofs.lemmas.Str.Pattern.{split_parts, strip_prefix_char}
use Rattle.pg_lex.specs.Tokens.{doubled}
use Rattle.pg_lex.proofs.QuoteLaws.{piece_more, piece_last, piece_open, not_starts, utf8_after, closed_len}
use Rattle.pg_lex.proofs.quotes.quoted.Goals as goal

pub split_once-requires-text-self : goal.split_once-requires-text-self
split_once-requires-text-self c = λ _. c.pieces.invariant.utf8

pub returns-in-None : goal.returns-in-None
returns-in-None c =
    let q = c.args.quote in
    let rest = c.in-Some.rest.now in
    let parts = split_parts q c.pieces.left.now (Some (c.in-Some.piece, c.in-Some.rest)) c.in-Some.ensures.cases c.requires in
    let apart = strip_prefix_char q rest None c.in-None.ensures.cases c.requires in
    let all = piece_last q c.args.text.now c.pieces.out c.pieces.left.now c.in-Some.piece.now rest c.pieces.invariant.read parts.0 parts.1 in
    let now : c.push_str.new.self ≡ c.pieces.out ++ c.in-Some.piece.now = c.in_ok-push_str.ensures.ok in
    let read : c.args.text.now ≡ doubled q c.push_str.new.self ++ q ∷ rest = all ∙ ap (λ (l : List ℕ). doubled q l ++ q ∷ rest) (sym now) in
    (rest, read, not_starts q rest apart, closed_len q c.args.text.now c.push_str.new.self rest read)

pub pieces-preserved : goal.pieces-preserved
pieces-preserved c =
    let q = c.args.quote in
    let piece = c.in-Some.piece.now in
    let rest = c.in-Some.rest.now in
    let more = c.in-Some-strip_prefix.more.now in
    let parts = split_parts q c.pieces.left.now (Some (c.in-Some.piece, c.in-Some.rest)) c.in-Some.ensures.cases c.requires in
    let next = strip_prefix_char q rest (Some c.in-Some-strip_prefix.more) c.in-Some-strip_prefix.ensures.cases c.requires in
    let all = piece_more q c.args.text.now c.pieces.out c.pieces.left.now piece rest more c.pieces.invariant.read parts.0 parts.1 next in
    let first : c.push_str.new.self ≡ c.pieces.out ++ piece = c.in_ok-push_str.ensures.ok in
    let second : c.push_ascii.new.self ≡ c.push_str.new.self ++ q ∷ [] = (c.in_ok-push_ascii-in-Some-strip_prefix).ensures.ok in
    let now : c.push_ascii.new.self ≡ (c.pieces.out ++ piece) ++ q ∷ [] = second ∙ ap (λ (l : List ℕ). l ++ q ∷ []) first in
    let left : c.pieces.left.now ≡ (piece ++ q ∷ []) ++ q ∷ more = parts.0 ∙ ap (λ (l : List ℕ). piece ++ q ∷ l) next ∙ sym (append_assoc piece (q ∷ []) (q ∷ more)) in
    record {
      read = all ∙ ap (λ (l : List ℕ). doubled q l ++ more) (sym now);
      utf8 = utf8_after q c.pieces.left.now (piece ++ q ∷ []) more left c.requires c.pieces.invariant.utf8;
    }

pub returns : goal.returns
returns c =
    let none = split_parts c.args.quote c.pieces.left.now None c.in_default.ensures.cases c.requires in
    (c.pieces.out ++ c.pieces.left.now, piece_open c.args.quote c.args.text.now c.pieces.out c.pieces.left.now c.pieces.invariant.read none)
