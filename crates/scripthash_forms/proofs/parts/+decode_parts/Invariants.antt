use Rattle.scripthash_forms.proofs.parts.+decode_parts.Given as goal

abbrev pub decreases-decode_parts : goal.decreases-decode_parts
decreases-decode_parts l = l.n
