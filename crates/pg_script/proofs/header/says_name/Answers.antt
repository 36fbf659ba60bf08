use Rattle.std.proofs.Common.{◌≡◌, ◌∙◌, true, take, ap, sym, subst, List, ℕ}
use Rattle.std.specs.List.{list_all}
use Rattle.pg_script.specs.Layout.{is_name_byte}
use Rattle.pg_script.proofs.Texts.Front.{front_passes}
use Rattle.pg_script.proofs.header.says_name.Goals as goal

pub is_name-requires : goal.is_name-requires
is_name-requires c =
    let front = c.split_at.ensures.front ∙ ap (λ n. take n c.args.bytes.now) c.name_len.ensures.value in
    subst (λ (l : List ℕ). list_all is_name_byte l ≡ true) (sym front) (front_passes is_name_byte c.args.bytes.now)
