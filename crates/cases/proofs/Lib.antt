mod Proved
