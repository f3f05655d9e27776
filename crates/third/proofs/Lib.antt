mod PassedOn
mod Each
